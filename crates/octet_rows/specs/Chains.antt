-- Numbers, each with a place, in chains: each entry says where the one before it in its chain stands.
use Rattle.std.specs.Prelude.{◌≡◌, ◌<◌, ◌≤◌, ℕ, zero, suc, ◌*◌, ◌/◌, ◌^◌, nat_eq, List, [], ◌∷◌, length, slice_index, slice_index_or, Option, Some, None, if◌then◌else◌}
use Rattle.std.specs.Option.{option_or}
use Rattle.octet_rows.specs.declared.firsts.Entry.{Entry}

abbrev pub no_entry : Entry
no_entry = record { number = 0; place = 0; before = 0 }

-- the place that a number was given last
abbrev pub latest : List Entry → ℕ → Option ℕ
latest [] number = None
latest (entry ∷ entries) number = option_or (latest entries number) (if nat_eq entry.number number then Some entry.place else None)

-- the place that a chain gives a number, in n steps
abbrev pub walk : ℕ → List Entry → ℕ → ℕ → Option ℕ
walk zero entries at number = None
walk (suc steps) entries zero number = None
walk (suc steps) entries (suc i) number =
    if nat_eq (slice_index_or entries i no_entry).number number then Some (slice_index_or entries i no_entry).place
    else walk steps entries (slice_index_or entries i no_entry).before number

-- where the chain of a number has its head among that many: all numbers below 2 ^ 64 are shared out evenly, in their order
abbrev pub slot : ℕ → ℕ → ℕ
slot heads number = number * heads / 2 ^ 64

abbrev pub head : List ℕ → ℕ → ℕ
head heads number = slice_index heads (slot (length heads) number)

-- each entry comes after the one before it in its chain
abbrev pub AreBack : List Entry → Type 0
AreBack entries = (i : ℕ) → i < length entries → (slice_index_or entries i no_entry).before ≤ i

-- the chain of each number finds the place that it was given last
pub record AreChained (heads : List ℕ) (entries : List Entry) : Type 0 where
  pub back : AreBack entries
  pub within : (q : ℕ) → head heads q ≤ length entries
  pub found : (q : ℕ) → walk (head heads q) entries (head heads q) q ≡ latest entries q
