-- What time, writes and losses make of a reservation that is kept, which may have run out.
use Rattle.std.proofs.Common.{◌≡◌, ◌≤◌, ℕ, suc, ◌+◌, ◌*◌, Bool, true, false, List, [], ◌∷◌, refl, sym, ap, ◌∙◌, subst, arith, true≢false}
use Rattle.std.specs.Prelude.{ℤ, pos, nat_abs, int_le, ◌&&◌, ◌==◌, nat_le, nat_lt, Option, None, Some, if◌then◌else◌}
use Rattle.std.specs.Option.{option_map}
use Rattle.std.proofs.lemmas.Grind.{common_steps}
use Rattle.std.proofs.lemmas.Bool.Decides.{nat_tests}
use Rattle.sv_base.specs.declared.value.Value.{Value}
use Rattle.sv_base.specs.declared.value.Value.TheVariants as kinds
use Rattle.sv_base.specs.declared.components.Comp.{Comp}
use Rattle.sv_base.specs.declared.components.Comp.TheVariants as comps
use Rattle.bay_model.specs.Breaks.{is_empty}
use Rattle.bay_model.specs.Reservations.{Reservation, with_number, without_number, is_run_out, unless_run_out, lasting, reserved_by, with_writer, without_writer, reservation_by}
use Rattle.brcb_state.specs.Standing.{HasSeconds}
use Rattle.list_laws.proofs.Truths.{and-both, and-false}

-- ---- time

le-later : (x m n : ℕ) → m ≤ n → nat_le x m ≡ true → nat_le x n ≡ true
le-later x m n h is = grind (arith, nat_tests, h, is)

out-later : (m n : ℕ) (r : Reservation) → m ≤ n → is_run_out m r ≡ true → is_run_out n r ≡ true
out-later m n r h is =
    let both = and-both (is_empty r.writers) (nat_le (r.since + 1000 * r.seconds) m) is in
    rw (both.0, le-later (r.since + 1000 * r.seconds) m n h both.1) refl

-- what has run out stays so
pub lasting-later : (m n : ℕ) (x : Option Reservation) → m ≤ n → lasting n (lasting m x) ≡ lasting n x
lasting-later m n None h = refl
lasting-later m n (Some r) h = either (is_run_out m r) refl where
  either : (t : Bool) → is_run_out m r ≡ t → lasting n (if t then None else Some r) ≡ unless_run_out n r
  either true is = rw (out-later m n r h is) refl
  either false is = refl

-- ---- a write

some-there : (a : ℕ) (es : List ℕ) → is_empty (with_number a es) ≡ false
some-there a [] = refl
some-there a (e ∷ es) = either (nat_lt a e) (a == e) where
  either : (t u : Bool) → is_empty (if t then a ∷ e ∷ es else (if u then e ∷ es else e ∷ with_number a es)) ≡ false
  either true u = refl
  either false true = refl
  either false false = refl

joined : (m a : ℕ) (x : Option Reservation) → lasting m (option_map (with_writer a) x) ≡ option_map (with_writer a) x
joined m a None = refl
joined m a (Some r) = rw (some-there a r.writers) refl

made : (m a : ℕ) (owner : List ℕ) (v : Value) → lasting m (reserved_by m a owner v) ≡ reserved_by m a owner v
made m a owner (kinds.Int z) = either (int_le (pos 1) z) where
  either : (t : Bool) → lasting m (if t then Some (record { owner = owner; seconds = nat_abs z; writers = a ∷ []; since = m }) else None)
      ≡ (if t then Some (record { owner = owner; seconds = nat_abs z; writers = a ∷ []; since = m }) else None)
  either true = refl
  either false = refl
made m a owner _ = refl

-- what a write makes hasn't run out
pub fresh : (m a : ℕ) (owner : List ℕ) (comp : Comp) (v : Value) (x : Option Reservation) → lasting m (reservation_by m a owner comp v x) ≡ reservation_by m a owner comp v x
fresh m a owner comps.ResvTms v x = made m a owner v
fresh m a owner _ v x = joined m a x

at-least : (z : ℤ) → int_le (pos 1) z ≡ true → 1 ≤ nat_abs z
at-least z is = grind (arith, common_steps)

made-seconds : (m a : ℕ) (owner : List ℕ) (v : Value) → HasSeconds (reserved_by m a owner v)
made-seconds m a owner (kinds.Int z) = either (int_le (pos 1) z) refl where
  either : (t : Bool) → int_le (pos 1) z ≡ t → HasSeconds (if t then Some (record { owner = owner; seconds = nat_abs z; writers = a ∷ []; since = m }) else None)
  either true is = at-least z is
  either false is = tt
made-seconds m a owner _ = tt

joined-seconds : (a : ℕ) (x : Option Reservation) → HasSeconds x → HasSeconds (option_map (with_writer a) x)
joined-seconds a None h = h
joined-seconds a (Some r) h = h

pub written-seconds : (m a : ℕ) (owner : List ℕ) (comp : Comp) (v : Value) (x : Option Reservation) → HasSeconds x → HasSeconds (reservation_by m a owner comp v x)
written-seconds m a owner comps.ResvTms v x h = made-seconds m a owner v
written-seconds m a owner _ v x h = joined-seconds a x h

pub lasting-seconds : (m : ℕ) (x : Option Reservation) → HasSeconds x → HasSeconds (lasting m x)
lasting-seconds m None h = h
lasting-seconds m (Some r) h = either (is_run_out m r) where
  either : (t : Bool) → HasSeconds (if t then None else Some r)
  either true = tt
  either false = h

-- ---- a loss

above : (m s : ℕ) → 1 ≤ s → nat_le (m + 1000 * s) m ≡ false
above m s h = grind (arith, nat_tests, h)

lost-of : (m a s t : ℕ) (o ws : List ℕ) → 1 ≤ s → lasting m (Some (without_writer m a (record { owner = o; seconds = s; writers = ws; since = t })))
    ≡ option_map (without_writer m a) (lasting m (Some (record { owner = o; seconds = s; writers = ws; since = t })))
lost-of m a s t o [] h = either (nat_le (t + 1000 * s) m) where
  either : (u : Bool) → (if u then None else Some (record { owner = o; seconds = s; writers = []; since = t })) ≡ option_map (without_writer m a) (if u then None else Some (record { owner = o; seconds = s; writers = []; since = t }))
  either true = refl
  either false = refl
lost-of m a s t o (e ∷ es) h = rw (above m s h, and-false (is_empty (without_number a (e ∷ es)))) refl

pub lost-lasting : (m a : ℕ) (x : Option Reservation) → HasSeconds x → lasting m (option_map (without_writer m a) x) ≡ option_map (without_writer m a) (lasting m x)
lost-lasting m a None h = refl
lost-lasting m a (Some r) h = lost-of m a r.seconds r.since r.owner r.writers h

pub lost-seconds : (m a : ℕ) (x : Option Reservation) → HasSeconds x → HasSeconds (option_map (without_writer m a) x)
lost-seconds m a None h = h
lost-seconds m a (Some r) h = h
