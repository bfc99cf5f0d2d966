-- What a response's line says, with the buffer that the fields are read from.
use Rattle.std.specs.Prelude.{ℕ, List, Some}
use Rattle.script.specs.Line.{Said, said_by}
use Rattle.script.specs.declared.Line.TheVariants as line
use Rattle.script.specs.declared.Response.{Response}

abbrev pub replied : Response → List ℕ → Said
replied r scratch = said_by (Some (line.Response r)) scratch
