-- Entries are never renumbered, and the front never falls, as points come.
use Rattle.std.proofs.Common.{ℕ, zero, suc, ◌+◌, drop, ◌≤◌, max, Bool, true, false, List, [], ◌∷◌, ◌++◌, length, sym, ap, ◌∙◌, subst, append-nil, append_assoc, length-append, arith}
use Rattle.std.specs.Prelude.{if◌then◌else◌, nat_lt}
use Rattle.bay_model.specs.Model.{Model}
use Rattle.bay_model.specs.Lookups.{block_of}
use Rattle.bay_model.specs.Points.{Point, Past}
use Rattle.bay_model.specs.Parameters.{purges}
use Rattle.bay_model.specs.Notes.{note}
use Rattle.bay_model.specs.Groups.{open_group}
use Rattle.bay_model.specs.Entries.{Entry, selected, appended, last_number, closed_entry, integrity_entry, general_entry, own_entry}
use Rattle.bay_model.specs.Retained.{size, sizes, least_dropped, purged, front}
use Rattle.bay_model.specs.EntryLaws.{BeginsWith}
use Rattle.bay_model.proofs.FrontLaws.{front_is_least, front_never_falls}

pub appended-begins : (s es : List Entry) → BeginsWith (appended s es) s
appended-begins s [] = ([], sym (append-nil s))
appended-begins s (e ∷ es) = either (nat_lt (length s) last_number) (appended-begins s es) (appended-begins (s ++ e ∷ []) es) where
  either : (t : Bool) → BeginsWith (appended s es) s → BeginsWith (appended (s ++ e ∷ []) es) (s ++ e ∷ []) → BeginsWith (appended (if t then s ++ e ∷ [] else s) es) s
  either true h i = (e ∷ i.0, i.1 ∙ append_assoc s (e ∷ []) i.0)
  either false h i = h

then-begins : (x y z : List Entry) → BeginsWith y x → BeginsWith z y → BeginsWith z x
then-begins x y z h i = (h.0 ++ i.0, i.1 ∙ (ap (λ w. w ++ i.0) h.1 ∙ append_assoc x h.0 i.0))

pub begins-one : (c : Model) (b : ℕ) (p : Point) (before : Past) → BeginsWith (selected c b (p ∷ before)) (selected c b before)
begins-one c b p before =
    then-begins (selected c b before) _ _ (appended-begins (selected c b before) (closed_entry c b p before (open_group c b before)))
    (then-begins _ _ _ (appended-begins _ (integrity_entry c b p before))
    (then-begins _ _ _ (appended-begins _ (general_entry c b p before)) (appended-begins _ (own_entry c b p before (note c b p before)))))

pub entries_stay : (c : Model) (b : ℕ) (ps : List Point) (before : Past) → BeginsWith (selected c b (ps ++ before)) (selected c b before)
entries_stay c b [] before = ([], sym (append-nil (selected c b before)))
entries_stay c b (p ∷ ps) before = then-begins (selected c b before) (selected c b (ps ++ before)) (selected c b (p ∷ (ps ++ before))) (entries_stay c b ps before) (begins-one c b p (ps ++ before))

dropped-more : (capacity : ℕ) (es rest : List Entry) → least_dropped capacity es ≤ least_dropped capacity (es ++ rest)
dropped-more capacity es [] = rw (append-nil es) (omega arith)
dropped-more capacity es (e ∷ rest) = let more : least_dropped capacity (es ++ e ∷ []) ≤ least_dropped capacity (es ++ (e ∷ rest)) = subst (λ l. least_dropped capacity (es ++ e ∷ []) ≤ least_dropped capacity l) (append_assoc es (e ∷ []) rest) (dropped-more capacity (es ++ e ∷ []) rest)
    in omega (arith, front_never_falls capacity es e, more)

module _ (c : Model) (b : ℕ) where
  longer : (p : Point) (before : Past) → length (selected c b before) ≤ length (selected c b (p ∷ before))
  longer p before = let begins : BeginsWith (selected c b (p ∷ before)) (selected c b before) = begins-one c b p before
      in subst (λ l. length (selected c b before) ≤ length l) (sym begins.1) (omega (arith, length-append (selected c b before) begins.0))

  purged-within : (past : Past) → purged c b past ≤ length (selected c b past)
  purged-within [] = omega arith
  purged-within (p ∷ before) = either (purges c b p.deed before) (length (selected c b (p ∷ before))) (longer p before) (purged-within before) where
    either : (t : Bool) (n : ℕ) → length (selected c b before) ≤ n → purged c b before ≤ length (selected c b before) → (if t then n else purged c b before) ≤ n
    either true n h i = omega arith
    either false n h i = omega (arith, h, i)

  purged-rises : (p : Point) (before : Past) → purged c b before ≤ purged c b (p ∷ before)
  purged-rises p before = either (purges c b p.deed before) (length (selected c b (p ∷ before))) (longer p before) (purged-within before) where
    either : (t : Bool) (n : ℕ) → length (selected c b before) ≤ n → purged c b before ≤ length (selected c b before) → purged c b before ≤ (if t then n else purged c b before)
    either true n h i = omega (arith, h, i)
    either false n h i = omega arith

  dropped-rises : (p : Point) (before : Past) → least_dropped (block_of c b).capacity (selected c b before) ≤ least_dropped (block_of c b).capacity (selected c b (p ∷ before))
  dropped-rises p before = let begins : BeginsWith (selected c b (p ∷ before)) (selected c b before) = begins-one c b p before
      in subst (λ l. least_dropped (block_of c b).capacity (selected c b before) ≤ least_dropped (block_of c b).capacity l) (sym begins.1) (dropped-more (block_of c b).capacity (selected c b before) begins.0)

  higher : (x y u v : ℕ) → x ≤ u → y ≤ v → max x y ≤ max u v
  higher x y u v h i = omega (arith, h, i)

  pub front-rises : (p : Point) (before : Past) → front c b before ≤ front c b (p ∷ before)
  front-rises p before = higher (purged c b before) (least_dropped (block_of c b).capacity (selected c b before)) (purged c b (p ∷ before)) (least_dropped (block_of c b).capacity (selected c b (p ∷ before))) (purged-rises p before) (dropped-rises p before)

pub front_rises : (c : Model) (b : ℕ) (ps : List Point) (before : Past) → front c b before ≤ front c b (ps ++ before)
front_rises c b [] before = omega arith
front_rises c b (p ∷ ps) before = past_two (front c b before) (front c b (ps ++ before)) (front c b (p ∷ (ps ++ before))) (front_rises c b ps before) (front-rises c b p (ps ++ before)) where
  past_two : (x y z : ℕ) → x ≤ y → y ≤ z → x ≤ z
  past_two x y z h i = omega (arith, h, i)

pub front_is_within : (c : Model) (b : ℕ) (past : Past) → front c b past ≤ length (selected c b past)
front_is_within c b past = lesser (purged c b past) (least_dropped (block_of c b).capacity (selected c b past)) (length (selected c b past)) (purged-within c b past) (front_is_least (block_of c b).capacity (selected c b past)).1 where
  lesser : (x y z : ℕ) → x ≤ z → y ≤ z → max x y ≤ z
  lesser x y z h i = omega (arith, h, i)

more-size : (a b c : ℕ) → b ≤ c → b ≤ a + c
more-size a b c h = omega (arith, h)

less : (es : List Entry) (n : ℕ) → sizes (drop n es) ≤ sizes es
less es zero = omega arith
less [] (suc n) = omega arith
less (e ∷ es) (suc n) = more-size (size e) (sizes (drop n es)) (sizes es) (less es n)

fewer : (es : List Entry) (m n : ℕ) → m ≤ n → sizes (drop n es) ≤ sizes (drop m es)
fewer es zero n h = less es n
fewer es (suc m) zero h = absurd (omega (arith, h))
fewer [] (suc m) (suc n) h = omega arith
fewer (e ∷ es) (suc m) (suc n) h = fewer es m n (omega (arith, h))

pub retained_fit : (c : Model) (b : ℕ) (past : Past) → sizes (drop (front c b past) (selected c b past)) ≤ (block_of c b).capacity
retained_fit c b past = through (sizes (drop (front c b past) (selected c b past))) (sizes (drop (least_dropped (block_of c b).capacity (selected c b past)) (selected c b past))) (block_of c b).capacity
    (fewer (selected c b past) (least_dropped (block_of c b).capacity (selected c b past)) (front c b past) (upper (purged c b past) (least_dropped (block_of c b).capacity (selected c b past))))
    (front_is_least (block_of c b).capacity (selected c b past)).0 where
      through : (x y z : ℕ) → x ≤ y → y ≤ z → x ≤ z
      through x y z h i = omega (arith, h, i)

      upper : (x y : ℕ) → y ≤ max x y
      upper x y = omega arith
