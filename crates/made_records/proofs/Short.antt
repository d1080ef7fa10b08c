-- How long drawn lines are.
use Rattle.std.proofs.Common.{◌≡◌, ◌≤◌, ◌<◌, ◌+◌, ◌*◌, ◌%◌, ◌^◌, ℕ, zero, suc, Bool, true, false, List, [], ◌++◌, length, refl, arith, length-append}
use Rattle.std.specs.Prelude.{codes, decimal, nat_lt, ◌==◌, if◌then◌else◌}
use Rattle.std.proofs.lemmas.Fmt.{length-decimal-le}
use Rattle.made_records.specs.declared.draw.Draw.{Draw}
use Rattle.made_records.specs.declared.line.MadeLine.TheVariants.{Power, Indication, At, Take}
use Rattle.made_records.specs.Made.{next_number, choice, rest, line_by, next_draw}
use Rattle.made_records.specs.Texts.{line_octets, line_text, lines_text}
use Rattle.made_records.proofs.Drawing.{moment-more}

numbered-short : (front : List ℕ) (n : ℕ) → n < 2 ^ 64 → length (front ++ decimal n) ≤ length front + 20
numbered-short front n h = omega (arith, length-append front (decimal n), length-decimal-le 20 n (omega arith) (omega (arith, h)) h)

line-short : (low four five odd : Bool) (n m : ℕ) → n < 2 ^ 64 → m < 2 ^ 64 → length (line_octets (if low then Power n else (if four then Indication odd else (if five then At m else Take)))) ≤ 49
line-short true four five odd n m hn hm = omega (arith, numbered-short (codes "set BAY1/MMXU1$MX$TotW$mag$i ") n hn)
line-short false true five true n m hn hm = omega arith
line-short false true five false n m hn hm = omega arith
line-short false false true odd n m hn hm = omega (arith, numbered-short (codes "at ") m hm)
line-short false false false odd n m hn hm = omega arith

drawn-short : (d : Draw) → d.moment < 2 ^ 60 → length (line_text (line_by d)) ≤ 50
drawn-short d h = let x = next_number d.number in
    omega (arith, length-append (line_octets (line_by d)) (codes "\n"), line-short (nat_lt (choice x) 4) (choice x == 4) (choice x == 5) (rest x % 2 == 1) (rest x % 1000) (d.moment + rest x % 500) (omega arith) (omega (arith, h)))

lines-short : (n : ℕ) (d : Draw) → d.moment + 499 * n < 2 ^ 60 → length (lines_text n d) ≤ 50 * n
lines-short zero d h = omega arith
lines-short (suc n) d h = let more : (next_draw d).moment ≤ d.moment + 499 = moment-more d (next_draw d) refl in
    omega (arith, length-append (line_text (line_by d)) (lines_text n (next_draw d)), drawn-short d (omega (arith, h)), lines-short n (next_draw d) (omega (arith, h, more)))

pub piece_short : (k : ℕ) (d : Draw) (none piece : List ℕ) → none ≡ [] → piece ≡ none ++ lines_text k d → k ≤ 256 → d.moment + 499 * k < 2 ^ 60 → length piece ≤ 12800
piece_short k d none piece none-is is few h = rw (is, none-is) (omega (arith, few, lines-short k d h))
