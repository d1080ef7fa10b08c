-- Reads before their turn, as far as a PDU can hold them.
use Rattle.std.proofs.Common.{◌≡◌, ◌≤◌, ◌<◌, ℕ, ◌+◌, List, [], ◌∷◌, ◌++◌, length, drop, get_or, sym, ap, ◌∙◌, arith, append_assoc, append-nil}
use Rattle.std.specs.Prelude.{None, Some, Result}
use Rattle.std.proofs.lemmas.List.{drop_all}
use Rattle.sv_base.specs.declared.value.Value.{Value}
use Rattle.bay_model.specs.declared.request.Target.{Target}
use Rattle.bay_replies.specs.declared.replies.Replies.{Replies}
use Rattle.bay_replies.specs.Held.{left_of}
use Rattle.bay_replies.specs.Reading.{early_len, early_read, early_reads, least_len, selecting_in}
use Rattle.bay_replies.proofs.SizeLaws.{drop-one, none-left, some-left}

-- done are read, left is what is left after the least that they are
module _ (r : Replies) (size left k : ℕ) (ts : List Target) (done : List (Result Value ℕ)) (are : done ++ early_reads r (drop k ts) ≡ early_reads r ts) (count : least_len r ts + left ≡ size + least_len r (drop k ts)) where
  abbrev len_of : Target → ℕ
  len_of t = early_len r t (selecting_in r.model.now t)

  parted : (t : Target) → k < length ts → t ≡ get_or ts k t → least_len r (drop k ts) ≡ len_of t + least_len r (drop (k + 1) ts)
  parted t below is = ap (least_len r) (drop-one ts k t below is)

  pub early-cut : (t : Target) → k < length ts → t ≡ get_or ts k t → left_of left (early_len r t (selecting_in r.model.now t)) ≡ None → size < least_len r ts
  early-cut t below is none = omega (arith, count, parted t below is, none-left left (len_of t) none)

  pub early-next : (t : Target) (one : Result Value ℕ) (rest : ℕ) → k < length ts → t ≡ get_or ts k t → one ≡ early_read r t (selecting_in r.model.now t) → left_of left (early_len r t (selecting_in r.model.now t)) ≡ Some rest
      → ((done ++ one ∷ []) ++ early_reads r (drop (k + 1) ts) ≡ early_reads r ts) × (least_len r ts + rest ≡ size + least_len r (drop (k + 1) ts))
  early-next t one rest below is same some =
      let fits = some-left left (len_of t) rest some in (
        append_assoc done (one ∷ []) (early_reads r (drop (k + 1) ts)) ∙ (ap (λ o. done ++ (o ∷ early_reads r (drop (k + 1) ts))) same ∙ (ap (λ l. done ++ early_reads r l) (sym (drop-one ts k t below is)) ∙ are)),
        omega (arith, count, parted t below is, fits.0, fits.1),
      )

  pub early-all : length ts ≤ k → done ≡ early_reads r ts
  early-all past = sym (append-nil done) ∙ (ap (λ l. done ++ early_reads r l) (sym (drop_all k ts past)) ∙ are)
