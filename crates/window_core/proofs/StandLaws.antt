-- For every past there is a window that stands for it.
use Rattle.std.proofs.Common.{◌≡◌, ℕ, Bool, true, false, List, [], ◌∷◌, map, refl, sym, ◌∙◌, subst}
use Rattle.std.specs.Prelude.{max}
use Rattle.bay_model.specs.Model.{Model}
use Rattle.bay_model.specs.Lookups.{block_of}
use Rattle.bay_model.specs.Points.{Deed, Past, now}
use Rattle.bay_model.specs.Parameters.{parameters_at}
use Rattle.bay_model.specs.Notes.{Kept, note}
use Rattle.bay_model.specs.Breaks.{integrity, cuts}
use Rattle.bay_model.specs.Groups.{open_group}
use Rattle.bay_model.specs.Singles.{arrival}
use Rattle.window_core.specs.Windows.{Windowed, empty, closed, after_time, after_event}
use Rattle.window_core.specs.Standing.{Stands, IsTimed, piece_of, window_at}
use Rattle.window_core.specs.Points.{at}
use Rattle.window_core.proofs.DeedLaws.{event-plain, event-same, unbroken-unchanged, unchanged}
use Rattle.window_core.proofs.GroupLaws.{time, period, event_comes, block_breaks, stays, no-group}

-- a window that stands for a past
record Stood (c : Model) (b : ℕ) (past : Past) : Type 0 where
  window : Windowed
  stands : Stands window c b past

module _ (c : Model) (b : ℕ) where
  arrives : (m n : ℕ) (before : Past) → Stood c b before → Stood c b (arrival n m ∷ before)
  arrives m n before s = either (integrity c b (arrival n m) before) refl
    where
      either : (t : Bool) → integrity c b (arrival n m) before ≡ t → Stood c b (arrival n m ∷ before)
      either true is = record { window = closed s.window; stands = (period c b m n before s.window s.stands is).0 }
      either false is = record { window = after_time (max m (now before)) s.window; stands = (time c b m n before s.window s.stands is).0 }

  goes : (m n : ℕ) (d : Deed) (before : Past) → Stood c b (arrival n m ∷ before) → Stood c b (at n m d ∷ before)
  goes m n d before s = by (note c b (at n m d) before) refl
    where
      quietly : note c b (at n m d) before ≡ [] → (t : Bool) → cuts c b d before ≡ t → Stood c b (at n m d ∷ before)
      quietly none true is = record { window = empty s.window.members (parameters_at c b (at n m d ∷ before)).buf_tm; stands = (block_breaks c b m n before d s.window s.stands none is).0 }
      quietly none false is = record { window = s.window; stands = (stays c b m n before d s.window s.stands none is (unchanged c b m n before d (unbroken-unchanged c b m n before d is)).buf_tm).0 }

      by : (ns : List Kept) → note c b (at n m d) before ≡ ns → Stood c b (at n m d ∷ before)
      by [] is = quietly is (cuts c b d before) refl
      by (k ∷ ks) is = record {
        window = after_event (max m (now before)) (map piece_of (k ∷ ks)) s.window;
        stands = (event_comes c b m n before d s.window k ks s.stands is (event-plain c b m n before d k ks is) (event-same c b m n before d k ks is)).0;
      }

  stood : (past : Past) → Stood c b past
  stood [] = record { window = empty 0 (block_of c b).initial.buf_tm; stands = record { buf_tm = refl; gathered = refl; timed = tt; at_once = λ z. refl } }
  stood (p ∷ before) = goes p.moment p.step p.deed before (arrives p.moment p.step before (stood before))

  pub always : (members : ℕ) (past : Past) → Stands (window_at members c b past) c b past
  always members past =
      let s = (stood past).stands in
      record {
        buf_tm = refl;
        gathered = refl;
        timed = subst (λ n. IsTimed n (open_group c b past)) s.buf_tm s.timed;
        at_once = λ z. sym s.gathered ∙ s.at_once (s.buf_tm ∙ z);
      }

  pub at_once : (past : Past) → (parameters_at c b past).buf_tm ≡ 0 → open_group c b past ≡ []
  at_once past z = no-group (open_group c b past) ((always 0 past).at_once z)
