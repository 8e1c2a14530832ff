-- What a reader has still to give. Assumes nothing.
use Rattle.std.specs.Prelude.{List}
use Rattle.paper.specs.Reading.{to_come}
use Rattle.paper.specs.declared.reader.Reader.{Reader}
use Rattle.paper.specs.declared.«record».Record.{Record}

-- the records from the reader's place on
abbrev pub records_left : Reader → List Record
records_left reader = to_come reader.paper.now reader.block reader.«record»
