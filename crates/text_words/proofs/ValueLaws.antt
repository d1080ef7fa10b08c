-- The values of several words.
use Rattle.std.proofs.Common.{◌≡◌, ℕ, zero, suc, ◌+◌, ◌<◌, List, [], ◌∷◌, ◌++◌, length, take, get_or, refl, ap, ◌∙◌, arith}
use Rattle.std.specs.Prelude.{Option, Some, None}
use Rattle.std.specs.Borrow.{Bor}
use Rattle.std.proofs.lemmas.List.{take_more, map-append}
use Rattle.sv_base.specs.declared.value.Value.{Value}
use Rattle.sv_base.specs.declared.types.TypeOf.{TypeOf}
use Rattle.text_words.specs.Words.{texts}
use Rattle.text_words.specs.Values.{value_at}
use Rattle.text_words.specs.Values.{one_more, values_at}

joined : (o : Option Value) (os : Option (List Value)) (vs : List Value) (v : Value) (rest : Option (List Value)) → one_more o os ≡ Some vs
    → ((ws : List Value) → os ≡ Some ws → rest ≡ Some (ws ++ v ∷ [])) → one_more o rest ≡ Some (vs ++ v ∷ [])
joined (Some a) (Some ws) vs v rest is more = ap (one_more (Some a)) (more ws refl) ∙ same (a ∷ ws) vs is where
  same : (xs ys : List Value) → Some xs ≡ Some ys → Some (xs ++ v ∷ []) ≡ Some (ys ++ v ∷ [])
  same xs ys e = let both : xs ≡ ys = cc in ap (λ zs. Some (zs ++ v ∷ [])) both
joined (Some a) None vs v rest is more = absurd cc
joined None os vs v rest is more = absurd cc

pub values-last : (kind : TypeOf) (words : List (List ℕ)) (word : List ℕ) (vs : List Value) (v : Value) → values_at kind words ≡ Some vs → value_at kind word ≡ Some v
    → values_at kind (words ++ word ∷ []) ≡ Some (vs ++ v ∷ [])
values-last kind [] word vs v are is = let none : [] ≡ vs = cc in ap (λ o. one_more o (Some [])) is ∙ ap (λ zs. Some (zs ++ v ∷ [])) none
values-last kind (w ∷ words) word vs v are is = joined (value_at kind w) (values_at kind words) vs v (values_at kind (words ++ word ∷ [])) are (λ ws so. values-last kind words word ws v so is)

pub values-more : (kind : TypeOf) (words : List (Bor (List ℕ))) (i : ℕ) (d : Bor (List ℕ)) (vs : List Value) (v : Value) → i < length words
    → values_at kind (texts (take i words)) ≡ Some vs → value_at kind (get_or words i d).now ≡ Some v → values_at kind (texts (take (i + 1) words)) ≡ Some (vs ++ v ∷ [])
values-more kind words i d vs v lt are is =
    ap (λ ws. values_at kind (texts ws)) (take_more words i d lt)
    ∙ (ap (values_at kind) (map-append (λ (w : Bor (List ℕ)). w.now) (take i words) (get_or words i d ∷ []))
    ∙ values-last kind (texts (take i words)) (get_or words i d).now vs v are is)

one_more-none : (o : Option Value) → one_more o None ≡ None
one_more-none None = refl
one_more-none (Some v) = refl

pub values-none : (kind : TypeOf) (words : List (Bor (List ℕ))) (i : ℕ) (d : Bor (List ℕ)) → i < length words → value_at kind (get_or words i d).now ≡ None → values_at kind (texts words) ≡ None
values-none kind [] i d lt is = absurd (omega (arith, lt))
values-none kind (w ∷ words) zero d lt is = ap (λ o. one_more o (values_at kind (texts words))) is
values-none kind (w ∷ words) (suc i) d lt is = ap (one_more (value_at kind w.now)) (values-none kind words i d (omega (arith, lt)) is) ∙ one_more-none (value_at kind w.now)
