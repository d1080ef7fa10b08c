-- What waits, with one more and with one less.
use Rattle.std.proofs.Common.{◌≡◌, ◌≤◌, ◌<◌, ℕ, suc, ◌+◌, Bool, true, false, List, [], ◌∷◌, ◌++◌, length, drop, refl, ap, ◌∙◌, arith, inl, inr, ◌⊎◌, ◌==◌, true≢false, length-append, append-nil}
use Rattle.std.specs.Prelude.{◌||◌, ◌-◌, Some, None, slice_get}
use Rattle.circular_buffer.specs.Buffer.{Buffer, buffer, keep_last}
use Rattle.std.specs.List.{list_any, AllByRecursion, IsDistinct}
use Rattle.std.proofs.lemmas.Bool.Decides.{nat_tests}
use Rattle.std.proofs.lemmas.Map.Steps.{length-le_from_distinct_below}
use Rattle.std.proofs.lemmas.Map.Keys.{IsDistinct-cons}
use Rattle.sv_base.specs.declared.numbers.CtlNo.{CtlNo}
use Rattle.bay_model.specs.declared.answer.Output.{Output}
use Rattle.assoc_table.specs.declared.waiting.Waiting.{Waiting}
use Rattle.assoc_table.specs.declared.waiting.Waiting.TheVariants.{Reply, Termination}
use Rattle.assoc_table.specs.Seats.{replies, controls, AreApart, IsQueue, IsNew}

-- replies and terminations are all that waits
pub parts : (ws : List Waiting) → length ws ≡ replies ws + length (controls ws)
parts [] = omega arith
parts (Reply output ∷ ws) = omega (arith, parts ws)
parts (Termination k good ∷ ws) = omega (arith, parts ws)

pub replies-append : (ws vs : List Waiting) → replies (ws ++ vs) ≡ replies ws + replies vs
replies-append [] vs = omega arith
replies-append (Reply output ∷ ws) vs = omega (arith, replies-append ws vs)
replies-append (Termination k good ∷ ws) vs = replies-append ws vs

pub controls-append : (ws vs : List Waiting) → controls (ws ++ vs) ≡ controls ws ++ controls vs
controls-append [] vs = refl
controls-append (Reply output ∷ ws) vs = controls-append ws vs
controls-append (Termination k good ∷ ws) vs = ap (λ l. k.0 ∷ l) (controls-append ws vs)

any-snoc : (p : ℕ → Bool) (xs : List ℕ) (x : ℕ) → list_any p xs ≡ false → p x ≡ false → list_any p (xs ++ x ∷ []) ≡ false
any-snoc p [] x h e = rw e refl
any-snoc p (y ∷ xs) x h e = either (p y) h (λ g. any-snoc p xs x g e) where
  either : (b : Bool) → b || list_any p xs ≡ false → (list_any p xs ≡ false → list_any p (xs ++ x ∷ []) ≡ false) → b || list_any p (xs ++ x ∷ []) ≡ false
  either true h go = absurd (true≢false h)
  either false h go = go h

none-first : (p : ℕ → Bool) (y : ℕ) (xs : List ℕ) → list_any p (y ∷ xs) ≡ false → (p y ≡ false) × (list_any p xs ≡ false)
none-first p y xs h = either (p y) h where
  either : (b : Bool) → b || list_any p xs ≡ false → (b ≡ false) × (list_any p xs ≡ false)
  either true h = absurd (true≢false h)
  either false h = (refl, h)

other-way : (k j : ℕ) → k == j ≡ false → j == k ≡ false
other-way k j h = grind (arith, nat_tests)

apart-snoc : (ks : List ℕ) (k : ℕ) → AreApart ks → list_any (λ l. k == l) ks ≡ false → AreApart (ks ++ k ∷ [])
apart-snoc [] k a h = (refl, tt)
apart-snoc (j ∷ ks) k a h =
    let n = none-first (λ l. k == l) j ks h in (any-snoc (λ l. j == l) ks k a.0 (other-way k j n.0), apart-snoc ks k a.1 n.1)

all-none : (p : ℕ → Bool) (xs : List ℕ) → list_any p xs ≡ false → AllByRecursion (λ y. p y ≡ false) xs
all-none p [] h = tt
all-none p (x ∷ xs) h = let n = none-first p x xs h in (n.0, all-none p xs n.1)

distinct : (ks : List ℕ) → AreApart ks → IsDistinct (λ k l. k == l) ks
unfolding IsDistinct
distinct [] a = tt
distinct (k ∷ ks) a = IsDistinct-cons (λ k l. k == l) k ks (all-none (λ l. k == l) ks a.0) (distinct ks a.1)

any-split : (p : ℕ → Bool) (xs : List ℕ) (x : ℕ) → list_any p (xs ++ x ∷ []) ≡ true → (list_any p xs ≡ true) ⊎ (p x ≡ true)
any-split p [] x h = inr (either (p x) h) where
  either : (b : Bool) → b || false ≡ true → b ≡ true
  either true h = refl
  either false h = h
any-split p (y ∷ xs) x h = either (p y) h (any-split p xs x) where
  either : (b : Bool) → b || list_any p (xs ++ x ∷ []) ≡ true → (list_any p (xs ++ x ∷ []) ≡ true → (list_any p xs ≡ true) ⊎ (p x ≡ true)) → (b || list_any p xs ≡ true) ⊎ (p x ≡ true)
  either true h go = inl refl
  either false h go = go h

same-number : (k l : ℕ) → k == l ≡ true → k ≡ l
same-number k l h = grind (arith, nat_tests)

below-snoc : (ks : List ℕ) (k n : ℕ) → ((q : ℕ) → list_any (λ l. q == l) ks ≡ true → q < n) → k < n → (q : ℕ) → list_any (λ l. q == l) (ks ++ k ∷ []) ≡ true → q < n
below-snoc ks k n below h q is = elim (any-split (λ l. q == l) ks k is) [ inl l ↦ below q l | inr r ↦ omega (arith, same-number q k r, h) ]

few-controls : (ks : List ℕ) → AreApart ks → ((q : ℕ) → list_any (λ l. q == l) ks ≡ true → q < 64) → length ks ≤ 64
few-controls ks a below = length-le_from_distinct_below ks 64 (distinct ks a) below

-- with one more they fit, and they are a queue again
pub record IsQueued (ws : List Waiting) (item : Waiting) : Type 0 where
  pub room : length ws < 80
  pub queue : IsQueue (ws ++ item ∷ [])

pub queued-reply : (ws : List Waiting) (output : Output) → IsQueue ws → replies ws < 16 → IsQueued ws (Reply output)
queued-reply ws output q few =
    let none : controls (ws ++ Reply output ∷ []) ≡ controls ws = controls-append ws (Reply output ∷ []) ∙ append-nil (controls ws) in
    record {
      room = omega (arith, parts ws, few, few-controls (controls ws) q.apart q.below);
      queue = record {
        few = omega (arith, replies-append ws (Reply output ∷ []), few);
        apart = rw none q.apart;
        below = rw none q.below;
      };
    }

pub queued-termination : (ws : List Waiting) (k : CtlNo) (good : Bool) → IsQueue ws → k.0 < 64 → list_any (λ l. k.0 == l) (controls ws) ≡ false → IsQueued ws (Termination k good)
queued-termination ws k good q low new =
    let more : controls (ws ++ Termination k good ∷ []) ≡ controls ws ++ k.0 ∷ [] = controls-append ws (Termination k good ∷ []) in
    let apart = apart-snoc (controls ws) k.0 q.apart new in
    let below = below-snoc (controls ws) k.0 64 q.below low in
    record {
      room = omega (arith, parts ws, q.few, few-controls (controls ws ++ k.0 ∷ []) apart below, length-append (controls ws) (k.0 ∷ []));
      queue = record {
        few = omega (arith, replies-append ws (Termination k good ∷ []), q.few);
        apart = rw more apart;
        below = rw more below;
      };
    }

-- without the oldest
pub queue_rest : (ws : List Waiting) → IsQueue ws → IsQueue (drop 1 ws)
queue_rest [] q = q
queue_rest (Reply output ∷ ws) q = record { few = omega (arith, q.few); apart = q.apart; below = q.below }
queue_rest (Termination k good ∷ ws) q = record { few = q.few; apart = q.apart.1; below = λ j is. q.below j (later k.0 j is) } where
  later : (k j : ℕ) → list_any (λ l. j == l) (controls ws) ≡ true → (j == k) || list_any (λ l. j == l) (controls ws) ≡ true
  later k j is = either (j == k) where
    either : (b : Bool) → b || list_any (λ l. j == l) (controls ws) ≡ true
    either true = refl
    either false = is

pub first_none : (ws : List Waiting) → slice_get ws 0 ≡ None → ws ≡ []
first_none [] h = refl
first_none (w ∷ ws) h = cc

pub first_reply : (ws : List Waiting) (output : Output) → slice_get ws 0 ≡ Some (Reply output) → replies ws ≡ suc (replies (drop 1 ws))
first_reply [] output h = cc
first_reply (w ∷ ws) output h = let is : w ≡ Reply output = cc in rw is refl

pub first_termination : (ws : List Waiting) (k : CtlNo) (good : Bool) → slice_get ws 0 ≡ Some (Termination k good) → replies ws ≡ replies (drop 1 ws)
first_termination [] k good h = cc
first_termination (w ∷ ws) k good h = let is : w ≡ Termination k good = cc in rw is refl

keep-all : (n : ℕ) (ws : List Waiting) → length ws ≤ n → keep_last n ws ≡ ws
keep-all n ws h = let none : length ws - n ≡ 0 = omega (arith, h) in rw none refl

-- a queue with one more, as a buffer of 80 keeps it
pub record IsPushed (now : Buffer Waiting) (count : ℕ) (all : List Waiting) : Type 0 where
  pub items : now.items ≡ all
  pub number : count ≡ replies now.items
  pub queue : IsQueue now.items
  pub room : now.capacity ≡ 80

pub pushed_reply : (old now : Buffer Waiting) (output : Output) → IsQueue old.items → old.capacity ≡ 80 → replies old.items < 16 → now ≡ buffer (keep_last old.capacity (old.items ++ Reply output ∷ [])) old.capacity
    → IsPushed now (replies old.items + 1) (old.items ++ Reply output ∷ [])
pushed_reply old now output q room few is =
    let more = queued-reply old.items output q few in
    let all : keep_last old.capacity (old.items ++ Reply output ∷ []) ≡ old.items ++ Reply output ∷ [] =
    keep-all old.capacity (old.items ++ Reply output ∷ []) (omega (arith, more.room, room, length-append old.items (Reply output ∷ []))) in
    rw (is, all) (record { items = refl; number = omega (arith, replies-append old.items (Reply output ∷ [])); queue = more.queue; room = room })

pub pushed_termination : (old now : Buffer Waiting) (k : CtlNo) (good : Bool) → IsQueue old.items → old.capacity ≡ 80 → IsNew (Termination k good) old.items
    → now ≡ buffer (keep_last old.capacity (old.items ++ Termination k good ∷ [])) old.capacity → IsPushed now (replies old.items) (old.items ++ Termination k good ∷ [])
pushed_termination old now k good q room new is =
    let more = queued-termination old.items k good q new.0 new.1 in
    let all : keep_last old.capacity (old.items ++ Termination k good ∷ []) ≡ old.items ++ Termination k good ∷ [] =
    keep-all old.capacity (old.items ++ Termination k good ∷ []) (omega (arith, more.room, room, length-append old.items (Termination k good ∷ []))) in
    rw (is, all) (record { items = refl; number = omega (arith, replies-append old.items (Termination k good ∷ [])); queue = more.queue; room = room })
