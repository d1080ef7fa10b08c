-- The first space of a text, looked for among its first octets, and then among the others.
use Rattle.std.proofs.Common.{◌≡◌, ℕ, ◌+◌, ◌-◌, ◌<◌, ◌≤◌, inl, inr, true, ◌==◌, List, length, take, drop, get_or, length-drop, sym, ap, subst, ◌∙◌, arith}
use Rattle.std.specs.Prelude.{Some, None}
use Rattle.std.specs.List.{slice_range}
use Rattle.std.proofs.lemmas.Bool.{cases_lt, eqb-true, eq-eqb}
use Rattle.std.proofs.lemmas.List.{get_or-take, get_or-drop, take_rest}
use Rattle.memchr.specs.Find.{IsFirstByte, Nowhere, Passes, is_byte}

abbrev IsSpace : List ℕ → ℕ → Type 0
IsSpace text k = get_or text k 0 ≡ 32

in-front : (text : List ℕ) (near k : ℕ) → k < near → IsSpace (take near text) k → IsSpace text k
in-front text near k inside is = sym (get_or-take near text k 0 inside) ∙ is

-- the first space is one of the first octets
pub near-space : (text : List ℕ) (near at : ℕ) → near ≤ length text → at < near → IsSpace (take near text) at → ((k : ℕ) → k < at → IsSpace (take near text) k → ⊥) → IsFirstByte (is_byte 32) text (Some at)
near-space text near at fits inside is none = (record { low = omega arith; high = omega arith; before = λ k from to yes. none k to (get_or-take near text k 0 (omega arith) ∙ eqb-true _ 32 yes) }, eq-eqb _ 32 (in-front text near at inside is))

in-others : (text : List ℕ) (near k : ℕ) → near ≤ k → (get_or text k 0 == 32) ≡ true → (get_or (drop near text) (k - near) 0 == 32) ≡ true
in-others text near k late is = let e : near + (k - near) ≡ k = omega arith in ap (λ b. b == 32) (get_or-drop near text (k - near) 0 ∙ ap (λ i. get_or text i 0) e) ∙ is

none-behind : (text : List ℕ) (near end : ℕ) → near ≤ length text → ((k : ℕ) → k < near → IsSpace (take near text) k → ⊥) → Nowhere (Passes (is_byte 32) (drop near text)) 0 end → Nowhere (Passes (is_byte 32) text) 0 (near + end)
none-behind text near end fits none others k from to is = elim (cases_lt k near) [
  | inl early ↦ none k early (get_or-take near text k 0 early ∙ eqb-true _ 32 is)
  | inr late ↦ others (k - near) (omega arith) (omega arith) (in-others text near k late is)
]

-- or it is the first of the others, or there is none
pub far-space : (text : List ℕ) (near at : ℕ) → near ≤ length text → ((k : ℕ) → k < near → IsSpace (take near text) k → ⊥) → IsFirstByte (is_byte 32) (slice_range text near (length text)) (Some at) → IsFirstByte (is_byte 32) text (Some (near + at))
far-space text near at fits none is =
    let found = subst (λ l. IsFirstByte (is_byte 32) l (Some at)) (take_rest text near) is in (
      record { low = omega arith; high = omega (arith, found.0.high, length-drop near text); before = none-behind text near at fits none found.0.before },
      ap (λ b. b == 32) (sym (get_or-drop near text at 0)) ∙ found.1,
    )

pub no-space : (text : List ℕ) (near : ℕ) → near ≤ length text → ((k : ℕ) → k < near → IsSpace (take near text) k → ⊥) → IsFirstByte (is_byte 32) (slice_range text near (length text)) None → IsFirstByte (is_byte 32) text None
no-space text near fits none is k from to =
    none-behind text near (length (drop near text)) fits none (subst (λ l. IsFirstByte (is_byte 32) l None) (take_rest text near) is) k from (omega (arith, length-drop near text))
