use Rattle.run.specs.Lines.{figure, line}
use Rattle.run.proofs.Printers.{fits_behind, prints_on, rooms}
use Rattle.run.proofs.lines.Printer.print_line.Goals as goal

pub print_figure-requires : goal.print_figure-requires
unfolding line
print_figure-requires c =
    let l = c.args.line in
    let one = figure l.place 32 in
    let two = figure l.number 32 in
    let three = figure l.first 32 in
    let four = figure l.second 10 in
    let room = rooms c.args.self.now one two three four c.requires in
    room.one

pub print_figure-requires-2 : goal.print_figure-requires-2
unfolding line
print_figure-requires-2 c =
    let l = c.args.line in
    let one = figure l.place 32 in
    let two = figure l.number 32 in
    let three = figure l.first 32 in
    let four = figure l.second 10 in
    let room = rooms c.args.self.now one two three four c.requires in
    fits_behind c.print_figure.ensures two room.two

pub print_figure-requires-3 : goal.print_figure-requires-3
unfolding line
print_figure-requires-3 c =
    let l = c.args.line in
    let one = figure l.place 32 in
    let two = figure l.number 32 in
    let three = figure l.first 32 in
    let four = figure l.second 10 in
    let room = rooms c.args.self.now one two three four c.requires in
    let done2 = prints_on c.print_figure.ensures two room.two c.print_figure-2.ensures in
    fits_behind done2 three room.three

pub print_figure-requires-4 : goal.print_figure-requires-4
unfolding line
print_figure-requires-4 c =
    let l = c.args.line in
    let one = figure l.place 32 in
    let two = figure l.number 32 in
    let three = figure l.first 32 in
    let four = figure l.second 10 in
    let room = rooms c.args.self.now one two three four c.requires in
    let done2 = prints_on c.print_figure.ensures two room.two c.print_figure-2.ensures in
    fits_behind (prints_on done2 three room.three c.print_figure-3.ensures) four c.requires

pub returns : goal.returns
unfolding line
returns c =
    let l = c.args.line in
    let one = figure l.place 32 in
    let two = figure l.number 32 in
    let three = figure l.first 32 in
    let four = figure l.second 10 in
    let room = rooms c.args.self.now one two three four c.requires in
    let done2 = prints_on c.print_figure.ensures two room.two c.print_figure-2.ensures in
    prints_on (prints_on done2 three room.three c.print_figure-3.ensures) four c.requires c.print_figure-4.ensures
