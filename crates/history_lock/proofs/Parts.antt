-- The start, seats that are cut and joined, and the end.
use Rattle.std.proofs.Common.{◌≡◌, ℕ, zero, suc, ◌+◌, ◌-◌, ◌<◌, ◌≤◌, ◌≢◌, List, [], ◌∷◌, ◌++◌, length, set, sym, refl, ap, ◌∙◌, subst, inl, inr, ⊎_elim, arith, cond, Option, Some, append-nil, replicate, ltb, lt-ltb, le-ltb, eq-eqb}
use mathlib.Core.Logic.{dite}
use mathlib.Core.Option.{none, some, some-injective, some-ne-none}
use native.Mathlib.Decide.{dec_le}
use lib.ListN.{get_elem?}
use Rattle.atomic_table.specs.Table.{step, keeps, Allows, Splits, Joins, opening, Final, Seen}
use Rattle.atomic_table.proofs.Lists.{at_set, at_snoc}
use Rattle.bay_model.specs.Answers.{History}
use Rattle.sv_base.specs.declared.config.Config.{Config}
use Rattle.history_lock.specs.declared.view.View.{View}
use Rattle.history_lock.specs.declared.view.Phase.TheVariants.{Idle}
use Rattle.bay_histories.specs.Rules.{Rules}
use Rattle.bay_histories.specs.Histories.{IsEarlier, by, IsLegal}
use Rattle.history_lock.specs.Views.{Stands, total, has, has_phase, busy, busy_phase, added, added_phase, inside, mine, aside_of, holds_number, left_of}
use Rattle.history_lock.specs.Rule.{FollowsRule, Fits, FitsPhase, Table, whole, spent}
use Rattle.history_lock.specs.Plays.{kept_ranges, cut_ranges, kept_part, cut_part, longer, joined, settled, compares, Seated, witness, alone, Beside, hears}
use Rattle.history_lock.proofs.Sums.{total-append, total-set, term_le}
use Rattle.history_lock.proofs.Steps.{by-append, nothing_more, earlier_self, earlier_shorter, by_between}
use Rattle.history_lock.proofs.Moves.{fits_set, Goes}

pub inside_below : (k low count : ℕ) → k < low → inside k (low, count) ≡ 0
inside_below k low count h = ap (λ b. cond b 0 (cond (ltb k (low + count)) 1 0)) (lt-ltb k low h)

pub inside_within : (k low count : ℕ) → low ≤ k → k < low + count → inside k (low, count) ≡ 1
inside_within k low count h g = ap (λ b. cond b 0 (cond (ltb k (low + count)) 1 0)) (le-ltb k low h) ∙ ap (λ b. cond b 1 0) (lt-ltb k (low + count) g)

pub inside_above : (k low count : ℕ) → low + count ≤ k → inside k (low, count) ≡ 0
inside_above k low count g = ap (λ b. cond b 0 (cond (ltb k (low + count)) 1 0)) (le-ltb k low (omega arith)) ∙ ap (λ b. cond b 1 0) (le-ltb k (low + count) g)

-- each history goes on from the empty one
all_of : (log : History) → IsEarlier [] log
all_of log = (log, append-nil log)

-- a range is cut in two
inside_cut : (k low count n : ℕ) → n ≤ count → inside k (low, count - n) + inside k (low + (count - n), n) ≡ inside k (low, count)
inside_cut k low count n le =
    dite (dec_le low k)
    (λ from. dite (dec_le (low + count) k)
    (λ above. omega (arith, inside_above k low (count - n) (omega arith), inside_above k (low + (count - n)) n (omega arith), inside_above k low count above))
    (λ under. dite (dec_le (low + (count - n)) k)
    (λ second. omega (
      arith,
      inside_above k low (count - n) second,
      inside_within k (low + (count - n)) n second (omega arith),
      inside_within k low count from (omega arith),
    ))
    (λ first. omega (
      arith,
      inside_within k low (count - n) from (omega arith),
      inside_below k (low + (count - n)) n (omega arith),
      inside_within k low count from (omega arith),
    ))))
    (λ below. omega (
      arith,
      inside_below k low (count - n) (omega arith),
      inside_below k (low + (count - n)) n (omega arith),
      inside_below k low count (omega arith),
    ))

-- the longer of two beginnings begins the whole, each begins it, and it has all steps of a number of either
longer_fits : (log xs ys : History) → IsEarlier xs log → IsEarlier ys log
    → IsEarlier (longer xs ys) log × IsEarlier xs (longer xs ys) × IsEarlier ys (longer xs ys)
    × ((k : ℕ) → by k log ≡ by k xs → by k log ≡ by k (longer xs ys)) × ((k : ℕ) → by k log ≡ by k ys → by k log ≡ by k (longer xs ys))
longer_fits log xs ys p q =
    let G : History → Type 0 = λ zs. IsEarlier zs log × IsEarlier xs zs × IsEarlier ys zs × ((k : ℕ) → by k log ≡ by k xs → by k log ≡ by k zs)
    × ((k : ℕ) → by k log ≡ by k ys → by k log ≡ by k zs) in
    dite (dec_le (length ys) (length xs))
    (λ le. let r = earlier_shorter ys xs log q p le in
    subst G (sym (ap (λ b. cond b ys xs) (le-ltb (length xs) (length ys) le))) (p, earlier_self xs, r, (λ k e. e), (λ k e. by_between k ys xs log r p e)))
    (λ gt. let r = earlier_shorter xs ys log p q (omega arith) in
    subst G (sym (ap (λ b. cond b ys xs) (lt-ltb (length xs) (length ys) (omega arith))))
    (q, r, earlier_self ys, (λ k e. by_between k xs ys log r q e), (λ k e. e)))

module _ {M : Type 0} (rules : Rules) (stands : Stands M) where
  pub opens : (actors : ℕ) (config : Config) (machine : M) → stands machine config []
      → FollowsRule rules stands actors config (opening (replicate 19 0) (Some machine ∷ []) (whole actors config))
  opens actors config machine begins = record {
    ticket = 0;
    serving = 0;
    log = [];
    bells = replicate 16 0;
    words = refl;
    sixteen = refl;
    waiting = λ t from below. absurd (omega arith);
    served = λ t below. absurd (omega arith);
    undrawn = λ t from. refl;
    room = omega arith;
    order = omega arith;
    few = omega arith;
    home = λ _. (machine, refl, begins);
    seats = one;
    apart = λ k. dite (dec_le actors k) (λ above. omega (arith, inside_above k 0 actors (omega arith)))
        (λ under. omega (arith, inside_within k 0 actors (omega arith) (omega arith)));
    given = λ k from. omega (arith, inside_above k 0 actors (omega arith));
    unmade = λ k from. refl;
    legal = tt;
  }
    where
      some_is : (c d : Config) → Some d ≡ Some c → c ≡ d
      some_is c d e = cc e

      one : (j : ℕ) (v : View) → get_elem? (whole actors config ∷ []) j ≡ some v → Fits config 0 [] v
      one zero v e = subst (Fits config 0 []) (some-injective _ _ e)
          (record {
            told_config = (λ c is. some_is c config is);
            front = ([], refl);
            phase = tt;
            own = λ k some_of. refl;
            back = ([], refl);
            own_aside = λ k some_of. refl;
          })
      one (suc j) v e = absurd (some-ne-none v (sym e))

  -- the last n numbers and some turns go to a new seat
  pub splits_kept : (actors : ℕ) (config : Config) (id : ℕ) (v : View) (low count n turns : ℕ) (others : List (ℕ × ℕ)) → v.ranges ≡ (low, count) ∷ others
      → n ≤ count → turns ≤ v.left → Splits (FollowsRule rules stands actors config) id v (kept_part n turns v) (cut_part n turns v)
  splits_kept actors config id v low count n turns others first fits enough s k at =
      let l : View = kept_part n turns v in
      let r : View = cut_part n turns v in
      let views : List View = set s.views id l ++ r ∷ [] in
      let moved : (f : View → ℕ) → total f views + f v ≡ total f s.views + f l + f r =
      λ f. omega (arith, total-append f (set s.views id l) (r ∷ []), total-set f s.views id v l at) in
      let numbers : (x : ℕ) → mine x l + mine x r ≡ mine x v = λ x.
      omega (
        arith,
        ap (λ (rs : List (ℕ × ℕ)). total (inside x) (kept_ranges rs n)) first,
        ap (λ (rs : List (ℕ × ℕ)). total (inside x) (cut_ranges rs n))
            first,
        ap (λ (rs : List (ℕ × ℕ)). total (inside x) rs) first,
        inside_cut x low count n fits,
      ) in
      let me = k.seats id v at in
      record {
        ticket = k.ticket;
        serving = k.serving;
        log = k.log;
        bells = k.bells;
        words = k.words;
        sixteen = k.sixteen;
        waiting = λ t from below. omega (arith, moved (has t), k.waiting t from below);
        served = λ t below. omega (arith, moved (has t), k.served t below);
        undrawn = λ t from. omega (arith, moved (has t), k.undrawn t from);
        room = omega (arith, moved left_of, k.room);
        order = k.order;
        few = omega (arith, moved added, k.few);
        home = λ none_busy. k.home (omega (arith, moved busy));
        seats = λ j u e. ⊎_elim
            (λ was. fits_set config k.serving k.log s.views id l (λ i y _ there. k.seats i y there)
            (record {
              told_config = me.told_config;
              front = me.front;
              phase = me.phase;
              own = λ x some_x. me.own x (omega (arith, numbers x));
              back = me.back;
              own_aside = me.own_aside;
            }) j u was)
            (λ (same : r ≡ u). subst (Fits config k.serving k.log) same
            (record {
              told_config = me.told_config;
              front = me.front;
              phase = tt;
              own = λ x some_x. me.own x (omega (arith, numbers x));
              back = all_of k.log;
              own_aside = λ x some_x. absurd (omega arith);
            }))
            (at_snoc (set s.views id l) r u j e);
        apart = λ x. omega (arith, moved (holds_number x), numbers x, k.apart x);
        given = λ x from. omega (arith, moved (holds_number x), numbers x, k.given x from);
        unmade = k.unmade;
        legal = k.legal;
      }

  pub joins_kept : (actors : ℕ) (config : Config) (id : ℕ) (v : View) (other : ℕ) (w : View) → v.phase ≡ Idle → w.phase ≡ Idle → v.aside ≡ []
      → Joins (FollowsRule rules stands actors config) id v other w (joined v w) spent
  joins_kept actors config id v other w idle idle' none_aside s k at apart there =
      let b : View = joined v w in
      let views : List View = set (set s.views id b) other spent in
      let moved : (f : View → ℕ) → total f views + f v + f w ≡ total f s.views + f b + f spent =
      λ f. omega (arith, total-set f (set s.views id b) other w spent there, total-set f s.views id v b at) in
      let here : get_elem? s.views other ≡ some w =
      ⊎_elim (λ (x : (other ≡ id) × (b ≡ w)). absurd (apart x.0)) (λ (x : (other ≢ id) × (get_elem? s.views other ≡ some w)). x.1)
      (at_set s.views id other b w there) in
      let me = k.seats id v at in
      let them = k.seats other w here in
      let empty : (x : ℕ) → aside_of x v ≡ 0 = λ x. ap (λ (rs : List (ℕ × ℕ)). total (inside x) rs) none_aside in
      record {
        ticket = k.ticket;
        serving = k.serving;
        log = k.log;
        bells = k.bells;
        words = k.words;
        sixteen = k.sixteen;
        waiting = λ t from below. omega (arith, moved (has t), ap (has_phase t) idle, ap (has_phase t) idle', k.waiting t from below);
        served = λ t below. omega (arith, moved (has t), ap (has_phase t) idle, ap (has_phase t) idle', k.served t below);
        undrawn = λ t from. omega (arith, moved (has t), ap (has_phase t) idle, ap (has_phase t) idle', k.undrawn t from);
        room = omega (arith, moved left_of, k.room);
        order = k.order;
        few = omega (arith, moved added, ap added_phase idle, ap added_phase idle', k.few);
        home = λ none_busy. k.home (omega (arith, moved busy, ap busy_phase idle, ap busy_phase idle'));
        seats = fits_set config k.serving k.log (set s.views id b) other spent
            (λ j u _ e. fits_set config k.serving k.log s.views id b (λ i y _ e'. k.seats i y e')
            (record {
              told_config = me.told_config;
              front = me.front;
              phase = subst (FitsPhase k.serving k.log v.seen) (sym idle) tt;
              own = me.own;
              back = them.front;
              own_aside = them.own;
            }) j u e)
            (record {
              told_config = (λ c is. absurd (cc is));
              front = all_of k.log;
              phase = tt;
              own = λ x some_x. absurd (omega arith);
              back = all_of k.log;
              own_aside = λ x some_x. absurd (omega arith);
            });
        apart = λ x. omega (arith, moved (holds_number x), empty x, k.apart x);
        given = λ x from. omega (arith, moved (holds_number x), empty x, k.given x from);
        unmade = k.unmade;
        legal = k.legal;
      }

  pub compares_kept : (actors : ℕ) (config : Config) (n id : ℕ) (m : Seated M) → m.0.phase ≡ Idle
      → Allows (FollowsRule rules stands actors config) n id m 0 (λ x. x) (compares (step n 0 0 0 none) m)
  compares_kept actors config n id m idle s k long at _ =
      let v : View = m.0 in
      let w : View = settled v in
      let moved : (f : View → ℕ) → total f (set s.views id w) + f v ≡ total f s.views + f w = λ f. total-set f s.views id v w at in
      let me = k.seats id v at in
      let f = longer_fits k.log v.seen v.told me.front me.back in
      let numbers : (x : ℕ) → mine x w ≡ mine x v + aside_of x v = λ x. total-append (inside x) v.ranges v.aside in
      subst (Goes rules stands actors config s 0 (λ x. x) id m (compares (step n 0 0 0 none) m)) (sym k.words) (
        w,
        keeps,
        tt,
        record {
          ticket = k.ticket;
          serving = k.serving;
          log = k.log;
          bells = k.bells;
          words = refl;
          sixteen = k.sixteen;
          waiting = λ t from below. omega (arith, moved (has t), k.waiting t from below);
          served = λ t below. omega (arith, moved (has t), k.served t below);
          undrawn = λ t from. omega (arith, moved (has t), k.undrawn t from);
          room = omega (arith, moved left_of, k.room);
          order = k.order;
          few = omega (arith, moved added, k.few);
          home = λ none_busy. k.home (omega (arith, moved busy));
          seats = fits_set config k.serving k.log s.views id w (λ j u _ e. k.seats j u e) (record {
            told_config = me.told_config;
            front = f.0;
            phase = subst (FitsPhase k.serving k.log (longer v.seen v.told)) (sym idle) tt;
            own = λ x some_x. dite (dec_le 1 (mine x v)) (λ h. f.3 x (me.own x (omega arith))) (λ h. f.4 x (me.own_aside x (omega (arith, numbers x, some_x))));
            back = all_of k.log;
            own_aside = λ x some_x. absurd (omega arith);
          });
          apart = λ x. omega (arith, moved (holds_number x), numbers x, k.apart x);
          given = λ x from. omega (arith, moved (holds_number x), numbers x, k.given x from);
          unmade = k.unmade;
          legal = k.legal;
        },
        (
          refl,
          record {
            this = f.1;
            that = f.2;
            here = λ x some_x. sym (f.3 x (me.own x some_x)) ∙ me.own x some_x;
            there = λ x some_x. sym (f.4 x (me.own_aside x some_x)) ∙ me.own_aside x some_x;
          },
          omega (arith, k.room, term_le left_of s.views id v at),
        ),
      )

  -- a new seat has seen the same, and has no number and no turn
  pub witness_kept : (actors : ℕ) (config : Config) (id : ℕ) (v : View) → Splits (FollowsRule rules stands actors config) id v v (witness v)
  witness_kept actors config id v s k at =
      let r : View = witness v in
      let moved : (f : View → ℕ) → total f (set s.views id v ++ r ∷ []) ≡ total f s.views + f r =
      λ f. omega (arith, total-append f (set s.views id v) (r ∷ []), total-set f s.views id v v at) in
      let me = k.seats id v at in
      record {
        ticket = k.ticket;
        serving = k.serving;
        log = k.log;
        bells = k.bells;
        words = k.words;
        sixteen = k.sixteen;
        waiting = λ t from below. omega (arith, moved (has t), k.waiting t from below);
        served = λ t below. omega (arith, moved (has t), k.served t below);
        undrawn = λ t from. omega (arith, moved (has t), k.undrawn t from);
        room = omega (arith, moved left_of, k.room);
        order = k.order;
        few = omega (arith, moved added, k.few);
        home = λ none_busy. k.home (omega (arith, moved busy));
        seats = λ j u e. ⊎_elim (λ was. fits_set config k.serving k.log s.views id v (λ i y _ there. k.seats i y there) me j u was)
            (λ (same : r ≡ u). subst (Fits config k.serving k.log) same
            (record {
              told_config = (λ c is. absurd (cc is));
              front = me.front;
              phase = tt;
              own = λ x some_x. absurd (omega arith);
              back = all_of k.log;
              own_aside = λ x some_x. absurd (omega arith);
            }))
            (at_snoc (set s.views id v) r u j e);
        apart = λ x. omega (arith, moved (holds_number x), k.apart x);
        given = λ x from. omega (arith, moved (holds_number x), k.given x from);
        unmade = k.unmade;
        legal = k.legal;
      }

  -- what the seat has seen and what it was told begin one history, so one begins the other
  beside_now : (serving : ℕ) (config : Config) (log : History) (v : View) → Fits config serving log v → Beside v v.told
  beside_now serving config log v me = dite (dec_le (length v.seen) (length v.told))
      (λ le. let r = earlier_shorter v.seen v.told log me.front me.back le in
      inl (
        r.0,
        r.1,
        (λ x some_x. nothing_more (by x v.seen) (by x r.0) (sym (by-append x r.0 v.seen) ∙ (ap (by x) r.1
            ∙ (sym (by_between x v.seen v.told log r me.back (me.own x some_x)) ∙ me.own x some_x)))),
      ))
      (λ gt. inr (earlier_shorter v.told v.seen log me.back me.front (omega arith)))

  pub hears_kept : (actors : ℕ) (config : Config) (n id : ℕ) (m : Seated M)
      → Allows (FollowsRule rules stands actors config) n id m 0 (λ x. x) (hears (step n 0 0 0 none) m)
  hears_kept actors config n id m s k long at _ =
      let v : View = m.0 in
      let w : View = alone v in
      let moved : (f : View → ℕ) → total f (set s.views id w) + f v ≡ total f s.views + f w = λ f. total-set f s.views id v w at in
      let me = k.seats id v at in
      subst (Goes rules stands actors config s 0 (λ x. x) id m (hears (step n 0 0 0 none) m)) (sym k.words) (
        w,
        keeps,
        tt,
        record {
          ticket = k.ticket;
          serving = k.serving;
          log = k.log;
          bells = k.bells;
          words = refl;
          sixteen = k.sixteen;
          waiting = λ t from below. omega (arith, moved (has t), k.waiting t from below);
          served = λ t below. omega (arith, moved (has t), k.served t below);
          undrawn = λ t from. omega (arith, moved (has t), k.undrawn t from);
          room = omega (arith, moved left_of, k.room);
          order = k.order;
          few = omega (arith, moved added, k.few);
          home = λ none_busy. k.home (omega (arith, moved busy));
          seats = fits_set config k.serving k.log s.views id w (λ j u _ e. k.seats j u e) (record {
            told_config = me.told_config;
            front = me.front;
            phase = me.phase;
            own = me.own;
            back = all_of k.log;
            own_aside = λ x some_x. absurd (omega arith);
          });
          apart = λ x. omega (arith, moved (holds_number x), k.apart x);
          given = λ x from. omega (arith, moved (holds_number x), k.given x from);
          unmade = k.unmade;
          legal = k.legal;
        },
        (refl, beside_now k.serving config k.log v me),
      )

  -- who has all numbers has seen the whole history
  all_seen : (actors : ℕ) (config : Config) (s : Table M) (k : FollowsRule rules stands actors config s) (id : ℕ) (v : View) → get_elem? s.views id ≡ some v
      → ((x : ℕ) → x < actors → 0 < mine x v) → v.seen ≡ k.log
  all_seen actors config s k id v at all =
      let me = k.seats id v at in
      let none_of : (x : ℕ) → by x me.front.0 ≡ [] = λ x. dite (dec_le actors x)
      (λ above. no_more (by x v.seen) (by x me.front.0) (sym (by-append x me.front.0 v.seen) ∙ (ap (by x) me.front.1 ∙ k.unmade x above)))
      (λ under. nothing_more (by x v.seen) (by x me.front.0) (sym (by-append x me.front.0 v.seen) ∙ (ap (by x) me.front.1 ∙ me.own x (all x (omega arith))))) in
      ap (λ (l : History). l ++ v.seen) (sym (nobody me.front.0 none_of)) ∙ me.front.1
    where
      no_more : (xs ys : History) → ys ++ xs ≡ [] → ys ≡ []
      no_more xs [] e = refl
      no_more xs (y ∷ ys) e = absurd (cc e)

      nobody : (l : History) → ((x : ℕ) → by x l ≡ []) → l ≡ []
      nobody [] h = refl
      nobody (e ∷ es) h = let one : e ∷ by e.actor es ≡ [] = sym (ap (λ b. cond b (e ∷ by e.actor es) (by e.actor es)) (eq-eqb e.actor e.actor refl))
          ∙ h e.actor in absurd (cc one)

  pub closes : (actors : ℕ) (config : Config) (id : ℕ) (v : View) (ws : List ℕ) (xs : List (Option M)) → Final (Seen (FollowsRule rules stands actors config) id v) ws xs
      → (log : History) × (get_elem? ws 2 ≡ some (length log)) × IsEarlier v.seen log × (((x : ℕ) → x < actors → 0 < mine x v) → v.seen ≡ log)
      × ((x : ℕ) → actors ≤ x → by x log ≡ []) × IsLegal rules config log
  closes actors config id v ws xs f =
      let s = f.0 in
      let k = f.1.0 in
      let words : k.ticket ∷ k.serving ∷ length k.log ∷ k.bells ≡ ws = sym k.words ∙ f.2 in (
        k.log,
        subst (λ (l : List ℕ). get_elem? l 2 ≡ some (length k.log)) words refl,
        (k.seats id v f.1.1).front,
        (λ all. all_seen actors config s k id v f.1.1 all),
        k.unmade,
        k.legal,
      )

-- a seat that took in a witness and forgot it is as it was
pub heard : (v w : View) → v.aside ≡ [] → v.told ≡ [] → alone (joined v (witness w)) ≡ v
heard v w none_aside none_told =
    let turns : v.left + 0 ≡ v.left = omega arith in
    λ i. record {
      config = v.config;
      ranges = v.ranges;
      left = turns i;
      phase = v.phase;
      seen = v.seen;
      aside = sym none_aside i;
      told = sym none_told i;
    }
