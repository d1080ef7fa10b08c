-- With the name of a component after it, the reference of a block is one of a variable.
use Rattle.std.proofs.Common.{ℕ, zero, suc, ◌+◌, ◌<◌, ◌≤◌, Bool, true, false, List, [], ◌∷◌, ◌++◌, length, cond, arith}
use Rattle.std.specs.Prelude.{not}
use Rattle.std.specs.List.{AllByRecursion, position_or_len}
use Rattle.std.proofs.lemmas.List.{length-append}
use Rattle.ber_grammar.specs.Content.{IsVisible}
use Rattle.mms_pdu.specs.AskingOctets.{AreVisible}
use Rattle.mms_client.specs.References.{IsReference, IsBlock, is_slash}

visible_all : (xs : List ℕ) → AllByRecursion IsVisible xs → AreVisible xs
visible_all [] all k lt = absurd (omega arith)
visible_all (x ∷ xs) all zero lt = all.0
visible_all (x ∷ xs) all (suc k) lt = visible_all xs all.1 k (omega arith)

visible-append : (xs ys : List ℕ) → AreVisible xs → AreVisible ys → AreVisible (xs ++ ys)
visible-append [] ys a b k lt = b k lt
visible-append (x ∷ xs) ys a b zero lt = a zero (omega arith)
visible-append (x ∷ xs) ys a b (suc k) lt = visible-append xs ys (λ j below. a (suc j) (omega arith)) b k (omega arith)

parts-append : (p : ℕ → Bool) (xs ys : List ℕ) → position_or_len p xs < length xs → position_or_len p (xs ++ ys) < length (xs ++ ys)
parts-append p [] ys h = absurd (omega arith)
parts-append p (x ∷ xs) ys h = by (p x) (parts-append p xs ys) h
  where
    by : (b : Bool) → (position_or_len p xs < length xs → position_or_len p (xs ++ ys) < length (xs ++ ys))
        → cond (not b) (1 + position_or_len p xs) 0 < length (x ∷ xs) → cond (not b) (1 + position_or_len p (xs ++ ys)) 0 < length (x ∷ (xs ++ ys))
    by true again h = omega arith
    by false again h = let k = again (omega arith) in omega arith

pub component_reference : (block name : List ℕ) → IsBlock block → length name ≤ 8 → AllByRecursion IsVisible name → IsReference (block ++ name)
component_reference block name is few visible = record {
  parts = parts-append is_slash block name is.reference.parts;
  visible = visible-append block name is.reference.visible (visible_all name visible);
  short = omega (arith, length-append block name, is.short);
}
