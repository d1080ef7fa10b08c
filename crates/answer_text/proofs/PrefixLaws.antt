-- A text that was added to.
use Rattle.std.proofs.Common.{◌≡◌, ℕ, List, ◌++◌, ap, ◌∙◌, append_assoc}

-- something more is added
pub added : (o x w y z : List ℕ) → y ≡ o ++ x → z ≡ y ++ w → z ≡ o ++ (x ++ w)
added o x w y z first then = then ∙ (ap (λ l. l ++ w) first ∙ append_assoc o x w)
