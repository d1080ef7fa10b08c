-- Names of data sets, none of which is empty.
use Rattle.std.proofs.Common.{◌≡◌, ◌≢◌, ◌<◌, ℕ, suc, Bool, true, false, cond, List, [], ◌∷◌, length, map, filter, refl, arith}
use Rattle.std.specs.Prelude.{None}
use Rattle.std.specs.Str.{bytes_eq}
use Rattle.name_order.specs.Sorting.{names_above}
use Rattle.data_sets.specs.Books.{Booked, Book, items_in, set_at}
use Rattle.bay_replies.specs.Replied.{listed}
use Rattle.bay_replies.proofs.NameLaws.{empties, all-names}

empties-items : (domain : List ℕ) (bs : List Booked) (configured : ℕ) → ((k : ℕ) → k < length bs → (set_at (record { configured = configured; sets = bs }) k).name.item ≢ []) → empties (items_in domain bs) ≡ 0
empties-items domain [] n h = refl
empties-items domain (b ∷ bs) n h = by (bytes_eq b.name.domain domain) (empties-items domain bs n (λ k below. h (suc k) (omega (arith, below))))
  where
    named : (i : List ℕ) → i ≢ [] → empties (items_in domain bs) ≡ 0 → empties (i ∷ items_in domain bs) ≡ 0
    named [] not go = absurd (not refl)
    named (o ∷ os) not go = go

    by : (t : Bool) → empties (items_in domain bs) ≡ 0
        → empties (map (λ (s : Booked). s.name.item) (cond t (b ∷ filter (λ (s : Booked). bytes_eq s.name.domain domain) bs) (filter (λ (s : Booked). bytes_eq s.name.domain domain) bs))) ≡ 0
    by true go = named b.name.item (h 0 (omega arith)) go
    by false go = go

-- above no name stand all of them
pub all-items : (book : Book) (domain : List ℕ) → ((k : ℕ) → k < length book.sets → (set_at book k).name.item ≢ []) → names_above (items_in domain book.sets) [] ≡ listed None (items_in domain book.sets)
all-items book domain h = all-names (items_in domain book.sets) false (empties-items domain book.sets book.configured h)
