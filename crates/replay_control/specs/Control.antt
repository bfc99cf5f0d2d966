-- The grammar of a control line, `C MODE T LIFETIME U V` or `S`, and the line that is printed for a fresh start.
use Rattle.std.specs.Prelude.{ℕ, Bool, true, false, cond, ◌&&◌, List, [], ◌∷◌, ◌++◌, eqb, length, Option, Some, None, option_map}
use Rattle.script_fields.specs.Fields.{is_number, value}
use Rattle.script_cut.specs.Cut.{Bytes, fields, at}
use Rattle.script_text.specs.Text.{decimal}
use Rattle.keys.specs.Keys.{same}
use Rattle.config.specs.declared.Config.{Config}
use Rattle.replay_control.specs.declared.Control.{Control}
use Rattle.replay_control.specs.declared.Control.TheVariants.{Fresh, Show}

abbrev pub plain_text : Bytes
plain_text = 112 ∷ 108 ∷ 97 ∷ 105 ∷ 110 ∷ []

abbrev pub strict_text : Bytes
strict_text = 115 ∷ 116 ∷ 114 ∷ 105 ∷ 99 ∷ 116 ∷ []

-- Four decimals below 2^64; any such numbers are taken.
unfoldable pub config_of : Bool → List Bytes → Option Config
config_of strict fs =
    cond (is_number (at fs 2) && (is_number (at fs 3) && (is_number (at fs 4) && is_number (at fs 5))))
    (Some (record { strict = strict; limit = value (at fs 2); lifetime = value (at fs 3); upload = value (at fs 4); response = value (at fs 5) }))
    None

-- `C`, and MODE: `strict` or `plain`.
unfoldable pub start_of : List Bytes → Option Config
start_of fs =
    cond (same (at fs 0) (67 ∷ []))
    (cond (same (at fs 1) strict_text) (config_of true fs) (cond (same (at fs 1) plain_text) (config_of false fs) None))
    None

-- A fresh start has six fields.
unfoldable pub fresh_of : List Bytes → Option Config
fresh_of fs = cond (eqb (length fs) 6) (start_of fs) None

-- `S` shows the state; any other line is a fresh start, or no control line.
unfoldable pub control_of : Bytes → Option Control
control_of line = cond (same line (83 ∷ [])) (Some Show) (option_map Fresh (fresh_of (fields line)))

-- `N config - - -`
unfoldable pub config_text : ℕ → Bytes
config_text n = decimal n ++ (32 ∷ 99 ∷ 111 ∷ 110 ∷ 102 ∷ 105 ∷ 103 ∷ 32 ∷ 45 ∷ 32 ∷ 45 ∷ 32 ∷ 45 ∷ 10 ∷ [])
