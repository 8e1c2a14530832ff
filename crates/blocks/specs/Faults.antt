-- The figures by which each fault of a block is told, and faults passed on. Assumes nothing.
use Rattle.std.specs.Prelude.{Ok, Err, Result}
use Rattle.blocks.specs.declared.fault.BlockFault.{BlockFault}
use Rattle.blocks.specs.declared.fault.BlockFault.TheVariants.{Check, Header, Record}
use Rattle.blocks.specs.declared.fault.Figures.{Figures}

-- the fault's number, its block and its record
abbrev pub figures_of : BlockFault → Figures
figures_of (Check block) = record { number = 14; block = block; «record» = 0 }
figures_of (Header block) = record { number = 15; block = block; «record» = 0 }
figures_of (Record fault) = record { number = 16; block = fault.block; «record» = fault.«record» }

-- what is answered next where no fault was found, else that fault, lifted
abbrev pub then : {T U E F : Type 0} → (E → F) → Result T E → Result U F → Result U F
then lift (Ok x) next = next
then lift (Err fault) next = Err (lift fault)
