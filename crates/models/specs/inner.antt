-- What the reader goes by, and with it `reading`, line after line. A reader of these files need not believe it: what `reading` means is `Told`, 01's
-- words, which `reading` is proved to meet and nothing else does (proofs/Words, proofs/Unique).
pub mod Lines
pub mod Progress
pub mod Parts
