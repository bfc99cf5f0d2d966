-- What a request's line says, with the buffer that the fields are read from.
use Rattle.std.specs.Prelude.{ℕ, List, Some}
use Rattle.script.specs.Line.{Said, said_by}
use Rattle.script.specs.declared.Line.TheVariants as line
use Rattle.script.specs.declared.Request.{Request}

abbrev pub asked : Request → List ℕ → Said
asked r scratch = said_by (Some (line.Request r)) scratch
