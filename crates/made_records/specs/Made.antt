-- The lines that a seed draws.
use Rattle.std.specs.Prelude.{ℕ, zero, suc, ◌+◌, ◌*◌, ◌/◌, ◌%◌, ◌^◌, ◌==◌, nat_lt, List, [], ◌∷◌, if◌then◌else◌}
use Rattle.made_records.specs.declared.draw.Draw.{Draw}
use Rattle.made_records.specs.declared.line.MadeLine.{MadeLine}
use Rattle.made_records.specs.declared.line.MadeLine.TheVariants.{Power, Indication, At, Take}

abbrev pub first_draw : ℕ → Draw
first_draw seed = record { number = seed; moment = 441763200000 }

-- the next number; of it the number that chooses the line, and the one that the line's value comes from
abbrev pub next_number : ℕ → ℕ
next_number x = (x * 6364136223846793005 + 1442695040888963407) % 2 ^ 64

abbrev pub choice : ℕ → ℕ
choice x = x / 2 ^ 33 % 8

abbrev pub rest : ℕ → ℕ
rest x = x / 2 ^ 33 / 8

abbrev pub moment_by : ℕ → ℕ → ℕ
moment_by x was = if choice x == 5 then was + rest x % 500 else was

abbrev pub next_draw : Draw → Draw
next_draw d = record { number = next_number d.number; moment = moment_by (next_number d.number) d.moment }

abbrev pub line_of : ℕ → ℕ → MadeLine
line_of x moment = if nat_lt (choice x) 4 then Power (rest x % 1000)
    else (if choice x == 4 then Indication (rest x % 2 == 1) else (if choice x == 5 then At (moment + rest x % 500) else Take))

-- the line that is drawn next
abbrev pub line_by : Draw → MadeLine
line_by d = line_of (next_number d.number) d.moment

-- n lines, in order
abbrev pub lines_from : ℕ → Draw → List MadeLine
lines_from zero d = []
lines_from (suc n) d = line_by d ∷ lines_from n (next_draw d)

-- where the drawing is after that many
abbrev pub draw_after : ℕ → Draw → Draw
draw_after zero d = d
draw_after (suc n) d = next_draw (draw_after n d)
