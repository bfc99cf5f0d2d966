-- The token, the options and the payload of a message, as lists of bytes.
use Rattle.std.specs.Prelude.{ℕ, List, [], ◌∷◌, ◌++◌}
use Rattle.message_format.specs.Format.{CoapOption, Message}
use Rattle.script_text.specs.Text.{decimal, shown}

-- `number:hex`, and a dot for an empty value.
unfoldable pub option_text : ℕ → List ℕ → List ℕ
option_text number value = decimal number ++ (58 ∷ shown value)

-- Options, each behind a comma.
unfoldable pub more_text : List CoapOption → List ℕ
more_text [] = []
more_text (o ∷ options) = 44 ∷ (option_text o.number o.value ++ more_text options)

-- All options, joined by commas; a dash where there are none.
unfoldable pub options_text : List CoapOption → List ℕ
options_text [] = 45 ∷ []
options_text (o ∷ options) = option_text o.number o.value ++ more_text options

-- `token options payload`, and a line end.
unfoldable pub parts_text : Message → List ℕ
parts_text m = shown m.token ++ (32 ∷ options_text m.options ++ (32 ∷ shown m.payload ++ (10 ∷ [])))
