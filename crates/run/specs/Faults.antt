-- The figures by which each fault of a run is told. Assumes nothing.
use Rattle.blocks.specs.declared.fault.Figures.{Figures}
use Rattle.paper.specs.Faults as paper
use Rattle.run.specs.declared.fault.RunFault.{RunFault}
use Rattle.run.specs.declared.fault.RunFault.TheVariants.{Room, InPaper}

-- the fault's number, its block and its record
abbrev pub figures_of : RunFault → Figures
figures_of Room = record { number = 13; block = 0; «record» = 0 }
figures_of (InPaper fault) = paper.figures_of fault
