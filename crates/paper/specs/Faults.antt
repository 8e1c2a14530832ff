-- The figures by which each fault of a paper is told. Assumes nothing.
use Rattle.blocks.specs.Faults as blocks
use Rattle.blocks.specs.declared.fault.Figures.{Figures}
use Rattle.paper.specs.declared.fault.PaperFault.{PaperFault}
use Rattle.paper.specs.declared.fault.PaperFault.TheVariants.{Length, InBlock}

-- the fault's number, its block and its record
abbrev pub figures_of : PaperFault → Figures
figures_of Length = record { number = 13; block = 0; «record» = 0 }
figures_of (InBlock fault) = blocks.figures_of fault
