-- A member after the others.
use Rattle.std.proofs.Common.{◌≡◌, refl, ap, ℕ, suc, ◌<◌, nat_lt, true, List, [], ◌∷◌, ◌++◌, arith}
use Rattle.std.proofs.lemmas.Bool.Decides.{nat_tests}
use Rattle.std.proofs.lemmas.List.Elements.{All-tail, All-weaker, All-push}
use Rattle.bay_model.specs.declared.note.Mention.{Mention}
use Rattle.bay_model.specs.declared.report.Reasons.{Reasons}
use Rattle.bay_model.specs.Mentions.{add}
use Rattle.trigger_core.specs.Noted.{AreBelow}

pub add_behind : (i : ℕ) (r : Reasons) (ms : List Mention) → AreBelow i ms → add i r ms ≡ ms ++ record { member = record { 0 = i }; reasons = r } ∷ []
add_behind i r [] below = refl
add_behind i r (m ∷ ms) below = rw (let e : nat_lt m.member.0 i ≡ true = grind (arith, nat_tests, below 0 m (omega arith)) in e) (ap (λ l. m ∷ l) (add_behind i r ms (All-tail (λ (m : Mention). m.member.0 < i) m ms below)))

pub below_more : (i : ℕ) (r : Reasons) (ms : List Mention) → AreBelow i ms → AreBelow (suc i) (ms ++ record { member = record { 0 = i }; reasons = r } ∷ [])
below_more i r ms below = All-push (λ (m : Mention). m.member.0 < suc i) ms (record { member = record { 0 = i }; reasons = r }) (All-weaker (λ (m : Mention). m.member.0 < i) (λ (m : Mention). m.member.0 < suc i) (λ m h. omega (arith, h)) ms below) (omega arith)

pub below_same : (i : ℕ) (ms : List Mention) → AreBelow i ms → AreBelow (suc i) ms
below_same i ms below = All-weaker (λ (m : Mention). m.member.0 < i) (λ (m : Mention). m.member.0 < suc i) (λ m h. omega (arith, h)) ms below
