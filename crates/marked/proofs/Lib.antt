pub mod MarkedStreams
