-- Each step keeps the rule.
use Rattle.std.proofs.Common.{◌≡◌, ℕ, zero, suc, ◌+◌, ◌%◌, ◌^◌, ◌<◌, ◌≤◌, ◌≢◌, ◌⊎◌, List, [], ◌∷◌, ◌++◌, length, get_or, set, length-set, sym, refl, ap, ◌∙◌, subst, inl, inr, ⊎_elim, arith, Option, Some}
use mathlib.Core.Logic.{dite}
use mathlib.Core.Option.{none, some}
use native.Mathlib.Decide.{ℕ_discrete, dec_le}
use lib.ListN.{get_elem?}
use Rattle.atomic_table.specs.Table.{Act, step, keeps, takes, gives, Valid, homes_after, carried_after, Allows}
use Rattle.atomic_table.proofs.Lists.{at_set, set_here, set_again}
use Rattle.bay_model.specs.Answers.{Turn, History}
use Rattle.sv_base.specs.declared.config.Config.{Config}
use Rattle.history_lock.specs.declared.view.View.{View}
use Rattle.history_lock.specs.declared.view.Phase.{Phase}
use Rattle.history_lock.specs.declared.view.Phase.TheVariants.{Idle, Drawn, Busy, Added}
use Rattle.bay_histories.specs.Rules.{Rules}
use Rattle.bay_histories.specs.Histories.{by, IsLegal}
use Rattle.history_lock.specs.Views.{Stands, total, hit, has, has_phase, ticket_of, busy, busy_phase, added, added_phase, mine, aside_of, holds_number, left_of}
use Rattle.history_lock.specs.Rule.{FollowsRule, Fits, FitsPhase, Table}
use Rattle.history_lock.specs.Plays.{Seated, drawn, draws, served, looks, extended, appends, resting, passes, rings, counts}
use Rattle.history_lock.proofs.Sums.{total-set, term_le, terms_le, total_mono, total_less, is_one, is_zero}
use Rattle.history_lock.proofs.Steps.{by-append, by_none, nothing_more, earlier_more}

pub fits_set : (config : Config) (serving : ℕ) (log : History) (views : List View) (id : ℕ) (w : View)
    → ((j : ℕ) (u : View) → j ≢ id → get_elem? views j ≡ some u → Fits config serving log u) → Fits config serving log w
    → (j : ℕ) (u : View) → get_elem? (set views id w) j ≡ some u → Fits config serving log u
fits_set config serving log views id w others mine j u e =
    ⊎_elim (λ (x : (j ≡ id) × (w ≡ u)). subst (Fits config serving log) x.1 mine) (λ (x : (j ≢ id) × (get_elem? views j ≡ some u)). others j u x.0 x.1)
    (at_set views id j w u e)

-- a seat that has the bay has the ticket that is served
busy_phase_has : (serving : ℕ) (log seen : History) (p : Phase) → FitsPhase serving log seen p → busy_phase p ≤ has_phase serving p
busy_phase_has serving log seen Idle h = omega arith
busy_phase_has serving log seen (Drawn n) h = omega arith
busy_phase_has serving log seen (Busy n) h = omega (arith, is_one n serving h.0)
busy_phase_has serving log seen (Added n) h = omega (arith, is_one n serving h.0)

added_busy : (p : Phase) → added_phase p ≤ busy_phase p
added_busy Idle = omega arith
added_busy (Drawn n) = omega arith
added_busy (Busy n) = omega arith
added_busy (Added n) = omega arith

busy_le : (p : Phase) → busy_phase p ≤ 1
busy_le Idle = omega arith
busy_le (Drawn n) = omega arith
busy_le (Busy n) = omega arith
busy_le (Added n) = omega arith

-- a seat without the bay fits any history that begins with what it has seen
idle_fits : (serving : ℕ) (log seen : History) (p : Phase) → busy_phase p ≡ 0 → FitsPhase serving log seen p
idle_fits serving log seen Idle h = tt
idle_fits serving log seen (Drawn n) h = tt
idle_fits serving log seen (Busy n) h = absurd (omega arith)
idle_fits serving log seen (Added n) h = absurd (omega arith)

busy_fits : (serving : ℕ) (log seen : History) (p : Phase) → busy_phase p ≡ 1 → FitsPhase serving log seen p → (seen ≡ log)
    × ((t : ℕ) → has_phase t p ≡ hit serving t)
busy_fits serving log seen Idle h f = absurd (omega arith)
busy_fits serving log seen (Drawn n) h f = absurd (omega arith)
busy_fits serving log seen (Busy n) h f = (f.1, λ t. ap (λ (x : ℕ). hit x t) f.0)
busy_fits serving log seen (Added n) h f = (f.1, λ t. ap (λ (x : ℕ). hit x t) f.0)

no_wrap : (n : ℕ) → n < 2 ^ 63 → n % 2 ^ 64 ≡ n
no_wrap n small = omega arith

module _ {M : Type 0} (rules : Rules) (stands : Stands M) where
  -- what a step at the word i owes, where the words are ws
  abbrev pub Goes : ℕ → Config → Table M → ℕ → (ℕ → ℕ) → ℕ → Seated M → (ℕ → Seated M → Type 0) → List ℕ → Type 0
  Goes actors config s i f id m then ws = (w : View) × (a : Act (Option M)) × Valid s.homes m.1 a
      × FollowsRule rules stands actors config (record { words = set ws i (f (get_or ws i 0)); homes = homes_after s.homes m.1 a; views = set s.views id w })
      × then (get_or ws i 0) (w, carried_after m.1 a)

  -- one seat at most has the machine
  busy_few : (actors : ℕ) (config : Config) (s : Table M) (k : FollowsRule rules stands actors config s) → total busy s.views ≤ total (has k.serving) s.views
  busy_few actors config s k = total_mono busy (has k.serving) s.views (λ j v e. busy_phase_has k.serving k.log v.seen v.phase (k.seats j v e).phase)

  pub draws_kept : (actors : ℕ) (config : Config) (n id : ℕ) (m : Seated M) → m.0.phase ≡ Idle → 0 < m.0.left
      → Allows (FollowsRule rules stands actors config) n id m 0 (λ x. (x + 1) % 2 ^ 64) (draws (step n 0 1 0 none) m)
  draws_kept actors config n id m idle some_left s k long at _ =
      let v : View = m.0 in
      let w : View = drawn v k.ticket in
      let before : (t : ℕ) → has t v ≡ 0 = λ t. ap (has_phase t) idle in
      let moved : (f : View → ℕ) → total f (set s.views id w) + f v ≡ total f s.views + f w = λ f. total-set f s.views id v w at in
      let lefts = moved left_of in
      let room = k.room in
      let fits : (k.ticket + 1) % 2 ^ 64 ≡ k.ticket + 1 = omega arith in
      let me = k.seats id v at in
      subst (Goes actors config s 0 (λ x. (x + 1) % 2 ^ 64) id m (draws (step n 0 1 0 none) m)) (sym k.words) (
        w,
        keeps,
        tt,
        record {
          ticket = k.ticket + 1;
          serving = k.serving;
          log = k.log;
          bells = k.bells;
          words = ap (λ (x : ℕ). x ∷ k.serving ∷ length k.log ∷ k.bells) fits;
          sixteen = k.sixteen;
          waiting = λ t from below. dite (ℕ_discrete k.ticket t)
              (λ e. omega (arith, moved (has t), before t, is_one k.ticket t e, k.undrawn t (omega arith)))
              (λ ne. omega (arith, moved (has t), before t, is_zero k.ticket t ne, k.waiting t from (omega arith)));
          served = λ t below. omega (arith, moved (has t), before t, is_zero k.ticket t (λ e. let o = k.order in omega arith), k.served t below);
          undrawn = λ t from. omega (arith, moved (has t), before t, is_zero k.ticket t (λ e. omega arith), k.undrawn t (omega arith));
          room = omega arith;
          order = let o = k.order in omega arith;
          few = omega (arith, moved added, ap added_phase idle, k.few);
          home = λ none_busy. k.home (omega (arith, moved busy, ap busy_phase idle));
          seats = fits_set config k.serving k.log s.views id w (λ j u _ e. k.seats j u e)
              (record { told_config = me.told_config; front = me.front; phase = tt; own = me.own; back = me.back; own_aside = me.own_aside });
          apart = λ x. omega (arith, moved (holds_number x), k.apart x);
          given = λ x from. omega (arith, moved (holds_number x), k.given x from);
          unmade = k.unmade;
          legal = k.legal;
        },
        refl,
      )

  -- the seat whose ticket is served sees the whole history, and takes the machine
  served_now : (actors : ℕ) (config : Config) (n id : ℕ) (m : Seated M) (t : ℕ) → m.0.phase ≡ Drawn t → (s : Table M) (k : FollowsRule rules stands actors config s)
      → length s.homes ≡ n → get_elem? s.views id ≡ some m.0 → k.serving ≡ t
      → Goes actors config s 1 (λ x. x) id m (looks stands (step n 1 0 0 none) m) (k.ticket ∷ k.serving ∷ length k.log ∷ k.bells)
  served_now actors config n id m t waits s k long at here =
      let v : View = m.0 in
      let me = k.seats id v at in
      let between : History = me.front.0 in
      let all : between ++ v.seen ≡ k.log = me.front.1 in
      let w : View = served v k.serving between in
      let phase : (x : ℕ) → has x v ≡ hit t x = λ x. ap (has_phase x) waits in
      let idle : busy v ≡ 0 = ap busy_phase waits in
      let moved : (f : View → ℕ) → total f (set s.views id w) + f v ≡ total f s.views + f w = λ f. total-set f s.views id v w at in
      let one : has k.serving v ≡ 1 = phase k.serving ∙ is_one t k.serving (sym here) in
      let some_waits : k.serving < k.ticket = ⊎_elim
      (λ (h : k.ticket ≤ k.serving). absurd (omega (arith, k.undrawn k.serving h, term_le (has k.serving) s.views id v at, one)))
      (λ (h : k.serving < k.ticket). h) (le_or_lt k.ticket k.serving) in
      let only = k.waiting k.serving (omega arith) some_waits in
      let fewer = total_less busy (has k.serving) s.views id v at (omega (arith, idle, one))
      (λ j u e. busy_phase_has k.serving k.log u.seen u.phase (k.seats j u e).phase) in
      let adds = total_mono added busy s.views (λ j u _. added_busy u.phase) in
      let room = k.room in
      let few = k.few in
      let short : length (between ++ v.seen) < 2 ^ 62 = let all' : length (between ++ v.seen) ≡ length k.log = ap length all in
      omega (arith, all', adds, fewer, only, few, room, some_waits) in
      let machine = k.home (omega (arith, fewer, only)) in (
        w,
        takes 0 (Some machine.0),
        machine.1,
        record {
          ticket = k.ticket;
          serving = k.serving;
          log = k.log;
          bells = k.bells;
          words = refl;
          sixteen = k.sixteen;
          waiting = λ x from below. omega (arith, moved (has x), phase x, ap (λ (y : ℕ). hit y x) here, k.waiting x from below);
          served = λ x below. omega (arith, moved (has x), phase x, ap (λ (y : ℕ). hit y x) here, k.served x below);
          undrawn = λ x from. omega (arith, moved (has x), phase x, ap (λ (y : ℕ). hit y x) here, k.undrawn x from);
          room = omega (arith, moved left_of, k.room);
          order = k.order;
          few = omega (arith, moved added, ap added_phase waits, k.few);
          home = λ none_busy. absurd (omega (arith, moved busy, idle, none_busy));
          seats = fits_set config k.serving k.log s.views id w (λ j u _ e. k.seats j u e)
              (record {
                told_config = me.told_config;
                front = ([], all);
                phase = (refl, all);
                own = λ x some_of. ap (by x) (sym all);
                back = me.back;
                own_aside = me.own_aside;
              });
          apart = λ x. omega (arith, moved (holds_number x), k.apart x);
          given = λ x from. omega (arith, moved (holds_number x), k.given x from);
          unmade = k.unmade;
          legal = k.legal;
        },
        (
          (λ _. (
            machine.0,
            between,
            refl,
            (λ c is. subst (λ (z : Config × History). stands machine.0 z.0 z.1) (λ i. (sym (me.told_config c is) i, sym all i))
                machine.2),
            (λ x some_of. nothing_more (by x v.seen) (by x between) (sym (by-append x between v.seen) ∙ (ap (by x) all ∙ me.own x some_of))),
            short,
          )),
          λ ne. absurd (ne (here ∙ sym (ap ticket_of waits))),
        ),
      )
    where
      le_or_lt : (a b : ℕ) → (a ≤ b) ⊎ (b < a)
      le_or_lt a b = dite (dec_le a b) (λ h. inl h) (λ h. inr (omega arith))

  -- a look that changes nothing
  not_yet : (actors : ℕ) (config : Config) (n id : ℕ) (m : Seated M) (t : ℕ) → m.0.phase ≡ Drawn t → (s : Table M) (k : FollowsRule rules stands actors config s)
      → get_elem? s.views id ≡ some m.0 → k.serving ≢ t
      → Goes actors config s 1 (λ x. x) id m (looks stands (step n 1 0 0 none) m) (k.ticket ∷ k.serving ∷ length k.log ∷ k.bells)
  not_yet actors config n id m t waits s k at other =
      let same : FollowsRule rules stands actors config (record { words = k.ticket ∷ k.serving ∷ length k.log ∷ k.bells; homes = s.homes; views = s.views }) =
      subst (λ (ws : List ℕ). FollowsRule rules stands actors config (record { words = ws; homes = s.homes; views = s.views })) k.words k in (
        m.0,
        keeps,
        tt,
        subst (λ (vs : List View). FollowsRule rules stands actors config (record { words = k.ticket ∷ k.serving ∷ length k.log ∷ k.bells; homes = s.homes; views = vs }))
            (sym (set_again s.views id m.0 at)) same,
        ((λ e. absurd (other (e ∙ ap ticket_of waits))), λ _. refl),
      )

  pub looks_kept : (actors : ℕ) (config : Config) (n id : ℕ) (m : Seated M) (t : ℕ) → m.0.phase ≡ Drawn t
      → Allows (FollowsRule rules stands actors config) n id m 1 (λ x. x) (looks stands (step n 1 0 0 none) m)
  looks_kept actors config n id m t waits s k long at _ =
      subst (Goes actors config s 1 (λ x. x) id m (looks stands (step n 1 0 0 none) m)) (sym k.words)
      (dite (ℕ_discrete k.serving t) (λ e. served_now actors config n id m t waits s k long at e) (λ ne. not_yet actors config n id m t waits s k at ne))

  pub appends_kept : (actors : ℕ) (config : Config) (n id : ℕ) (m : Seated M) (e : Turn) (t : ℕ) → m.0.phase ≡ Busy t → 0 < mine e.actor m.0
      → (config' : Config) × (m.0.config ≡ Some config') × IsLegal rules config' (e ∷ m.0.seen)
      → Allows (FollowsRule rules stands actors config) n id m 2 (λ x. (x + 1) % 2 ^ 64) (appends e (step n 2 1 0 none) m)
  appends_kept actors config n id m e t turn some_of accepted s k long at _ =
      let v : View = m.0 in
      let me = k.seats id v at in
      let w : View = extended v (ticket_of v.phase) e in
      let log : History = e ∷ k.log in
      let busy_now : busy v ≡ 1 = ap busy_phase turn in
      let fits = busy_fits k.serving k.log v.seen v.phase busy_now me.phase in
      let whole : e ∷ v.seen ≡ log = ap (λ (l : History). e ∷ l) fits.0 in
      let ticket : t ≡ k.serving = (subst (FitsPhase k.serving k.log v.seen) turn me.phase).0 in
      let phase : (x : ℕ) → has x v ≡ hit t x = λ x. ap (has_phase x) turn in
      let ticket' : ticket_of v.phase ≡ t = ap ticket_of turn in
      let phase' : (x : ℕ) → hit (ticket_of v.phase) x ≡ hit t x = λ x. ap (λ (y : ℕ). hit y x) ticket' in
      let moved : (f : View → ℕ) → total f (set s.views id w) + f v ≡ total f s.views + f w = λ f. total-set f s.views id v w at in
      let one : has k.serving v ≡ 1 = phase k.serving ∙ is_one t k.serving ticket in
      let only : total (has k.serving) s.views ≤ 1 =
      dite (dec_le k.ticket k.serving) (λ h. omega (arith, k.undrawn k.serving h)) (λ h. omega (arith, k.waiting k.serving (omega arith) (omega arith))) in
      let alone = busy_few actors config s k in
      let longer : length log ≡ length k.log + 1 = omega arith in
      let adds = total_mono added busy s.views (λ j u _. added_busy u.phase) in
      let few = k.few in
      let room = k.room in
      let order = k.order in
      let small : length k.log + 1 < 2 ^ 63 = omega (arith, few, room, order, adds, alone, only) in
      let wraps : (length k.log + 1) % 2 ^ 64 ≡ length log = no_wrap (length k.log + 1) small ∙ sym longer in
      let other : (j : ℕ) (u : View) → j ≢ id → get_elem? s.views j ≡ some u → (busy u ≡ 0) × ((x : ℕ) → 0 < holds_number x u → e.actor ≢ x) = λ j u ne there. (
        omega (arith, terms_le busy s.views id j v u ne at there, busy_now, alone, only),
        λ x some_x same. let two = terms_le (holds_number e.actor) s.views id j v u ne at there in let a = k.apart e.actor in
            let y : holds_number e.actor u ≡ holds_number x u = ap (λ (z : ℕ). holds_number z u) same in omega arith,
      ) in
      let not_aside : (x : ℕ) → 0 < aside_of x v → e.actor ≢ x = λ x some_x same. let a = k.apart x in
      let y : mine e.actor v ≡ mine x v = ap (λ (z : ℕ). mine z v) same in omega (arith, term_le (holds_number x) s.views id v at) in
      subst (Goes actors config s 2 (λ x. (x + 1) % 2 ^ 64) id m (appends e (step n 2 1 0 none) m)) (sym k.words) (
        w,
        keeps,
        tt,
        record {
          ticket = k.ticket;
          serving = k.serving;
          log = log;
          bells = k.bells;
          words = ap (λ (x : ℕ). k.ticket ∷ k.serving ∷ x ∷ k.bells) wraps;
          sixteen = k.sixteen;
          waiting = λ x from below. omega (arith, moved (has x), phase x, phase' x, k.waiting x from below);
          served = λ x below. omega (arith, moved (has x), phase x, phase' x, k.served x below);
          undrawn = λ x from. omega (arith, moved (has x), phase x, phase' x, k.undrawn x from);
          room = omega (arith, moved left_of, k.room);
          order = k.order;
          few = omega (arith, moved added, ap added_phase turn, k.few, longer);
          home = λ none_busy. absurd (omega (arith, moved busy, busy_now, none_busy, term_le busy s.views id v at));
          seats = fits_set config k.serving log s.views id w
              (λ j u ne there. let o = other j u ne there in let f = k.seats j u there in record {
                told_config = f.told_config;
                front = earlier_more u.seen k.log e f.front;
                phase = idle_fits k.serving log u.seen u.phase o.0;
                own = λ x some_x. by_none x k.log e (o.1 x (omega arith)) ∙ f.own x some_x;
                back = earlier_more u.told k.log e f.back;
                own_aside = λ x some_x. by_none x k.log e (o.1 x (omega arith)) ∙ f.own_aside x some_x;
              })
              (record {
                told_config = me.told_config;
                front = ([], whole);
                phase = (ticket' ∙ ticket, whole);
                own = λ x some_x. ap (by x) (sym whole);
                back = earlier_more v.told k.log e me.back;
                own_aside = λ x some_x. by_none x k.log e (not_aside x some_x) ∙ me.own_aside x some_x;
              });
          apart = λ x. omega (arith, moved (holds_number x), k.apart x);
          given = λ x from. omega (arith, moved (holds_number x), k.given x from);
          unmade = λ x from. by_none x k.log e (λ same. let z : holds_number e.actor v ≡ holds_number x v = ap (λ (y : ℕ). holds_number y v) same in
              omega (arith, term_le (holds_number x) s.views id v at, k.given x from)) ∙ k.unmade x from;
          legal = subst (λ (z : Config × History). IsLegal rules z.0 z.1) (λ i. (me.told_config accepted.0 accepted.1 i, whole i)) accepted.2;
        },
        (ap length (sym fits.0), refl),
      )

  -- a seat that has the machine gives it back as it stands for the history, and the next ticket is served
  passes_at : (actors : ℕ) (config : Config) (id : ℕ) (v : View) (machine : M) (config' : Config) → busy v ≡ 1 → v.config ≡ Some config'
      → stands machine config' v.seen → Allows (FollowsRule rules stands actors config) 1 id (v, (0, Some machine) ∷ []) 1 (λ x. (x + 1) % 2 ^ 64)
      (passes (step 1 1 1 0 none) (v, (0, Some machine) ∷ []))
  passes_at actors config id v machine config' busy_now is standing s k long at _ =
      let m : Seated M = (v, (0, Some machine) ∷ []) in
      let me = k.seats id v at in
      let w : View = resting v in
      let fits = busy_fits k.serving k.log v.seen v.phase busy_now me.phase in
      let moved : (f : View → ℕ) → total f (set s.views id w) + f v ≡ total f s.views + f w = λ f. total-set f s.views id v w at in
      let one : has k.serving v ≡ 1 = fits.1 k.serving ∙ is_one k.serving k.serving refl in
      let some_waits : k.serving < k.ticket = dite (dec_le k.ticket k.serving)
      (λ h. absurd (omega (arith, k.undrawn k.serving h, term_le (has k.serving) s.views id v at, one))) (λ h. omega arith) in
      let only = k.waiting k.serving (omega arith) some_waits in
      let alone = busy_few actors config s k in
      let room = k.room in
      let wraps : (k.serving + 1) % 2 ^ 64 ≡ k.serving + 1 = omega (arith, room, some_waits) in
      let other : (j : ℕ) (u : View) → j ≢ id → get_elem? s.views j ≡ some u
      → busy u ≡ 0 = λ j u ne there. omega (arith, terms_le busy s.views id j v u ne at there, busy_now, alone, only) in
      let adds = added_busy v.phase in
      subst (Goes actors config s 1 (λ x. (x + 1) % 2 ^ 64) id m (passes (step 1 1 1 0 none) m)) (sym k.words) (
        w,
        gives,
        tt,
        record {
          ticket = k.ticket;
          serving = k.serving + 1;
          log = k.log;
          bells = k.bells;
          words = ap (λ (x : ℕ). k.ticket ∷ x ∷ length k.log ∷ k.bells) wraps;
          sixteen = k.sixteen;
          waiting = λ x from below. omega (arith, moved (has x), fits.1 x, is_zero k.serving x (λ e. omega arith), k.waiting x (omega arith) below);
          served = λ x below. dite (ℕ_discrete k.serving x)
              (λ e. omega (arith, moved (has x), fits.1 x, is_one k.serving x e, only, ap (λ (y : ℕ). total (has y) s.views) e))
              (λ ne. omega (arith, moved (has x), fits.1 x, is_zero k.serving x ne, k.served x (omega arith)));
          undrawn = λ x from. omega (arith, moved (has x), fits.1 x, is_zero k.serving x (λ e. omega (arith, some_waits)), k.undrawn x from);
          room = omega (arith, moved left_of, k.room);
          order = omega (arith, some_waits);
          few = omega (arith, moved added, adds, busy_now, k.few);
          home = λ _. (
            machine,
            set_here s.homes 0 (some (Some machine)) (omega arith),
            subst (λ (z : Config × History). stands machine z.0 z.1)
                (λ i. (me.told_config config' is i, fits.0 i)) standing,
          );
          seats = fits_set config (k.serving + 1) k.log s.views id w
              (λ j u ne there. let f = k.seats j u there in
              record {
                told_config = f.told_config;
                front = f.front;
                phase = idle_fits (k.serving + 1) k.log u.seen u.phase (other j u ne there);
                own = f.own;
                back = f.back;
                own_aside = f.own_aside;
              })
              (record { told_config = me.told_config; front = me.front; phase = tt; own = me.own; back = me.back; own_aside = me.own_aside });
          apart = λ x. omega (arith, moved (holds_number x), k.apart x);
          given = λ x from. omega (arith, moved (holds_number x), k.given x from);
          unmade = k.unmade;
          legal = k.legal;
        },
        refl,
      )

  pub passes_kept : (actors : ℕ) (config : Config) (id : ℕ) (m : Seated M) (machine : M) (config' : Config) → busy m.0 ≡ 1 → m.1 ≡ (0, Some machine) ∷ []
      → m.0.config ≡ Some config' → stands machine config' m.0.seen → Allows (FollowsRule rules stands actors config) 1 id m 1 (λ x. (x + 1) % 2 ^ 64) (passes (step 1 1 1 0 none) m)
  passes_kept actors config id m machine config' busy_now held is standing =
      let v : View = m.0 in
      let same : (v, (0, Some machine) ∷ []) ≡ m = λ i. (v, sym held i) in
      subst (λ (x : Seated M). Allows (FollowsRule rules stands actors config) 1 id x 1 (λ y. (y + 1) % 2 ^ 64) (passes (step 1 1 1 0 none) x)) same
      (passes_at actors config id v machine config' busy_now is standing)

  -- a bell is any number
  pub rings_kept : (actors : ℕ) (config : Config) (n id : ℕ) (m : Seated M) (bell : ℕ) → 3 ≤ bell
      → Allows (FollowsRule rules stands actors config) n id m bell (λ x. (x + 1) % 2 ^ 64) (rings (step n bell 1 0 none) m)
  rings_kept actors config n id m zero from s k long at _ = absurd (omega arith)
  rings_kept actors config n id m (suc zero) from s k long at _ = absurd (omega arith)
  rings_kept actors config n id m (suc (suc zero)) from s k long at _ = absurd (omega arith)
  rings_kept actors config n id m (suc (suc (suc j))) from s k long at _ =
      let bells : List ℕ = set k.bells j ((get_or k.bells j 0 + 1) % 2 ^ 64) in
      let rung : FollowsRule rules stands actors config (record { words = k.ticket ∷ k.serving ∷ length k.log ∷ bells; homes = s.homes; views = s.views }) = record {
        ticket = k.ticket;
        serving = k.serving;
        log = k.log;
        bells = bells;
        words = refl;
        sixteen = length-set k.bells j ((get_or k.bells j 0 + 1) % 2 ^ 64) ∙ k.sixteen;
        waiting = k.waiting;
        served = k.served;
        undrawn = k.undrawn;
        room = k.room;
        order = k.order;
        few = k.few;
        home = k.home;
        seats = k.seats;
        apart = k.apart;
        given = k.given;
        unmade = k.unmade;
        legal = k.legal;
      } in
      subst (Goes actors config s (suc (suc (suc j))) (λ x. (x + 1) % 2 ^ 64) id m (rings (step n (suc (suc (suc j))) 1 0 none) m)) (sym k.words) (
        m.0,
        keeps,
        tt,
        subst (λ (vs : List View). FollowsRule rules stands actors config (record { words = k.ticket ∷ k.serving ∷ length k.log ∷ bells; homes = s.homes; views = vs }))
            (sym (set_again s.views id m.0 at)) rung,
        refl,
      )

  pub counts_kept : (actors : ℕ) (config : Config) (n id : ℕ) (m : Seated M) → busy m.0 ≡ 1
      → Allows (FollowsRule rules stands actors config) n id m 2 (λ x. x) (counts (step n 2 0 0 none) m)
  counts_kept actors config n id m busy_now s k long at _ =
      let me = k.seats id m.0 at in
      let fits = busy_fits k.serving k.log m.0.seen m.0.phase busy_now me.phase in
      let same : FollowsRule rules stands actors config (record { words = k.ticket ∷ k.serving ∷ length k.log ∷ k.bells; homes = s.homes; views = s.views }) =
      subst (λ (ws : List ℕ). FollowsRule rules stands actors config (record { words = ws; homes = s.homes; views = s.views })) k.words k in
      subst (Goes actors config s 2 (λ x. x) id m (counts (step n 2 0 0 none) m)) (sym k.words) (
        m.0,
        keeps,
        tt,
        subst (λ (vs : List View). FollowsRule rules stands actors config (record { words = k.ticket ∷ k.serving ∷ length k.log ∷ k.bells; homes = s.homes; views = vs }))
            (sym (set_again s.views id m.0 at)) same,
        (refl, ap length (sym fits.0)),
      )
