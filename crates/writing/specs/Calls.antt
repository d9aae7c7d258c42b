-- The calls that read a model, or take a built-in one, and write its text: a refusal of what is read goes before that of the buffer.
use Rattle.std.specs.Prelude.{ℕ, List}
use Rattle.answers.specs.Given.{Given, gives, unless_refused}
use Rattle.models.specs.declared.model.Model.{Model}
use Rattle.models.specs.Told.{Reading}
use Rattle.models.specs.Text.{text_of}
use Rattle.models.specs.Reading.{reading}
use Rattle.writing.specs.Writing.{described}

-- what a call gives that writes a text where what it read is accepted
abbrev pub text_given : Reading → List ℕ → Given
text_given r text = unless_refused r λ _. gives text 0 0

-- and where what it read, or was given, is a reading; a text that is read and written back
abbrev pub reading_given : Reading → Given
reading_given r = unless_refused r λ (m : Model). gives (text_of (described m)) 0 0

abbrev pub back_given : List ℕ → Given
back_given text = text_given (reading text) text
