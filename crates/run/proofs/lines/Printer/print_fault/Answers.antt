use Rattle.std.proofs.Common.{[], ◌∷◌, sym, subst}
use Rattle.run.specs.Lines.{figure, fault_line}
use Rattle.run.specs.Printers.{Fits, Prints}
use Rattle.run.proofs.Printers.{fits_behind, fits_front, prints_on, rooms}
use Rattle.run.proofs.lines.Printer.print_fault.Goals as goal

pub print_byte-requires : goal.print_byte-requires
unfolding fault_line
print_byte-requires c =
    let f = c.args.figures in
    let mark = 70 ∷ 32 ∷ [] in
    let one = figure f.number 32 in
    let two = figure f.block 32 in
    let three = figure f.«record» 10 in
    let room = rooms c.args.self.now mark one two three c.requires in
    fits_front c.args.self.now (70 ∷ []) (32 ∷ []) room.one

pub print_byte-requires-2 : goal.print_byte-requires-2
unfolding fault_line
print_byte-requires-2 c =
    let f = c.args.figures in
    let mark = 70 ∷ 32 ∷ [] in
    let one = figure f.number 32 in
    let two = figure f.block 32 in
    let three = figure f.«record» 10 in
    let room = rooms c.args.self.now mark one two three c.requires in
    fits_behind c.print_byte.ensures (32 ∷ []) room.one

pub print_figure-requires : goal.print_figure-requires
unfolding fault_line
print_figure-requires c =
    let f = c.args.figures in
    let mark = 70 ∷ 32 ∷ [] in
    let one = figure f.number 32 in
    let two = figure f.block 32 in
    let three = figure f.«record» 10 in
    let room = rooms c.args.self.now mark one two three c.requires in
    let done0 = prints_on c.print_byte.ensures (32 ∷ []) room.one c.print_byte-2.ensures in
    subst (λ n. Fits c.print_byte-2.new.self (figure n 32)) (sym c.from.ensures) (fits_behind done0 one room.two)

pub print_figure-requires-2 : goal.print_figure-requires-2
unfolding fault_line
print_figure-requires-2 c =
    let f = c.args.figures in
    let mark = 70 ∷ 32 ∷ [] in
    let one = figure f.number 32 in
    let two = figure f.block 32 in
    let three = figure f.«record» 10 in
    let room = rooms c.args.self.now mark one two three c.requires in
    let done0 = prints_on c.print_byte.ensures (32 ∷ []) room.one c.print_byte-2.ensures in
    let done1 = prints_on done0 one room.two (subst (λ n. Prints c.print_byte-2.new.self (figure n 32) c.print_figure.new.self) c.from.ensures c.print_figure.ensures) in
    subst (λ n. Fits c.print_figure.new.self (figure n 32)) (sym c.from-2.ensures) (fits_behind done1 two room.three)

pub print_figure-requires-3 : goal.print_figure-requires-3
unfolding fault_line
print_figure-requires-3 c =
    let f = c.args.figures in
    let mark = 70 ∷ 32 ∷ [] in
    let one = figure f.number 32 in
    let two = figure f.block 32 in
    let three = figure f.«record» 10 in
    let room = rooms c.args.self.now mark one two three c.requires in
    let done0 = prints_on c.print_byte.ensures (32 ∷ []) room.one c.print_byte-2.ensures in
    let done1 = prints_on done0 one room.two (subst (λ n. Prints c.print_byte-2.new.self (figure n 32) c.print_figure.new.self) c.from.ensures c.print_figure.ensures) in
    let done2 = prints_on done1 two room.three (subst (λ n. Prints c.print_figure.new.self (figure n 32) c.print_figure-2.new.self) c.from-2.ensures c.print_figure-2.ensures) in
    subst (λ n. Fits c.print_figure-2.new.self (figure n 10)) (sym c.from-3.ensures) (fits_behind done2 three c.requires)

pub returns : goal.returns
unfolding fault_line
returns c =
    let f = c.args.figures in
    let mark = 70 ∷ 32 ∷ [] in
    let one = figure f.number 32 in
    let two = figure f.block 32 in
    let three = figure f.«record» 10 in
    let room = rooms c.args.self.now mark one two three c.requires in
    let done0 = prints_on c.print_byte.ensures (32 ∷ []) room.one c.print_byte-2.ensures in
    let done1 = prints_on done0 one room.two (subst (λ n. Prints c.print_byte-2.new.self (figure n 32) c.print_figure.new.self) c.from.ensures c.print_figure.ensures) in
    let done2 = prints_on done1 two room.three (subst (λ n. Prints c.print_figure.new.self (figure n 32) c.print_figure-2.new.self) c.from-2.ensures c.print_figure-2.ensures) in
    prints_on done2 three c.requires (subst (λ n. Prints c.print_figure-2.new.self (figure n 10) c.print_figure-3.new.self) c.from-3.ensures c.print_figure-3.ensures)
