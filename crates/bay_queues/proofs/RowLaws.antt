-- Rows of associations by their numbers, and how many terminations wait in them.
use Rattle.std.proofs.Common.{◌≡◌, ◌≢◌, ℕ, suc, ◌+◌, ◌-◌, ◌≤◌, Bool, true, false, List, [], ◌∷◌, ◌++◌, length, map, drop, refl, sym, ap, ◌∙◌, subst, arith, ◌==◌}
use Rattle.std.specs.Prelude.{if◌then◌else◌, slice_get, Some}
use Rattle.std.specs.List.{list_any}
use Rattle.std.proofs.lemmas.List.{get_or-set_same, get_or-set_other, length-set, map-append}
use Rattle.list_laws.proofs.Places.{same-number, swap-number}
use Rattle.sv_base.specs.declared.numbers.CtlNo.{CtlNo}
use Rattle.assoc_table.specs.declared.waiting.Waiting.{Waiting}
use Rattle.assoc_table.specs.declared.waiting.Waiting.TheVariants.{Reply, Termination}
use Rattle.assoc_table.specs.Seats.{Row, closed, controls}
use Rattle.assoc_table.specs.Standing.{waiting_of}
use Rattle.assoc_table.specs.Tables.{IsNumber, row_of, with_row}
use Rattle.control_core.specs.TerminationsWait.{endings}
use Rattle.control_core.proofs.EndingLaws.{endings-append}

pub row-same : (rows : List Row) (a : ℕ) (row : Row) → length rows ≡ 16 → IsNumber a → row_of (with_row rows a row) a ≡ row
row-same rows a row count number = get_or-set_same rows (a - 1) row closed (omega (arith, count, number))

pub row-other : (rows : List Row) (a e : ℕ) (row : Row) → IsNumber a → IsNumber e → e ≢ a → row_of (with_row rows a row) e ≡ row_of rows e
row-other rows a e row mine its not = get_or-set_other rows (a - 1) (e - 1) row closed (λ is. not (omega (arith, is, mine, its)))

pub count-with : (rows : List Row) (a : ℕ) (row : Row) → length rows ≡ 16 → length (with_row rows a row) ≡ 16
count-with rows a row count = length-set rows (a - 1) row ∙ count

-- one more waits
pub ends-append : (k : ℕ) (ws vs : List Waiting) → endings k (map waiting_of (ws ++ vs)) ≡ endings k (map waiting_of ws) + endings k (map waiting_of vs)
ends-append k ws vs = ap (endings k) (map-append waiting_of ws vs) ∙ endings-append k (map waiting_of ws) (map waiting_of vs)

-- the termination of a control waits, or none does
pub none-waits : (k : ℕ) (ws : List Waiting) → endings k (map waiting_of ws) ≡ 0 → list_any (λ l. k == l) (controls ws) ≡ false
none-waits k [] h = refl
none-waits k (Reply output ∷ ws) h = none-waits k ws h
none-waits k (Termination j good ∷ ws) h = either (j.0 == k) refl h (none-waits k ws) where
  either : (b : Bool) → (j.0 == k) ≡ b → (if b then suc (endings k (map waiting_of ws)) else endings k (map waiting_of ws)) ≡ 0 → (endings k (map waiting_of ws) ≡ 0 → list_any (λ l. k == l) (controls ws) ≡ false)
      → list_any (λ l. k == l) (j.0 ∷ controls ws) ≡ false
  either true e h rest = absurd (omega (arith, h))
  either false e h rest = rw (swap-number k j.0 ∙ e) (rest h)

-- what is left when the oldest is taken
pub ends-drop : (k : ℕ) (ws : List Waiting) → endings k (map waiting_of (drop 1 ws)) ≤ endings k (map waiting_of ws)
ends-drop k [] = omega arith
ends-drop k (Reply output ∷ ws) = omega arith
ends-drop k (Termination j good ∷ ws) = either (j.0 == k) where
  either : (b : Bool) → endings k (map waiting_of ws) ≤ (if b then suc (endings k (map waiting_of ws)) else endings k (map waiting_of ws))
  either true = omega arith
  either false = omega arith

-- the oldest is a control's
pub ends-oldest : (j : CtlNo) (good : Bool) (ws : List Waiting) → slice_get ws 0 ≡ Some (Termination j good) → endings j.0 (map waiting_of ws) ≡ suc (endings j.0 (map waiting_of (drop 1 ws)))
ends-oldest j good [] h = absurd cc
ends-oldest j good (w ∷ ws) h = let is : w ≡ Termination j good = cc in subst (λ v. endings j.0 (map waiting_of (v ∷ ws)) ≡ suc (endings j.0 (map waiting_of ws))) (sym is) (rw (same-number j.0) refl)
