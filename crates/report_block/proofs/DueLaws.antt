-- Before the moment at which a block has something due time leaves it as it is.
use Rattle.std.proofs.Common.{◌≡◌, ◌<◌, ◌≤◌, ◌+◌, ◌-◌, ◌*◌, ◌/◌, inl, inr, ℕ, Bool, true, false, List, refl, sym, subst, ap, ap₂, ◌∙◌, arith, if◌then◌else◌}
use Rattle.std.specs.Prelude.{◌==◌, ◌&&◌, not, nat_le, nat_lt, Option, None, Some, unwrap_or}
use Rattle.std.specs.Option.{option_map, option_map_or}
use Rattle.std.proofs.lemmas.Bool.Decides.{eqb_tells}
use Rattle.std.proofs.lemmas.Nat.{div_below, le-div}
use Rattle.std.proofs.Math.Nat.{div-mul-le_self}
use Rattle.bay_model.specs.Model.{Parameters}
use Rattle.bay_model.specs.Parameters.{bit}
use Rattle.bay_model.specs.Breaks.{is_empty, is_period_over}
use Rattle.window_core.specs.Pieces.{Piece}
use Rattle.window_core.specs.Windows.{Gathered, closed, end_of}
use Rattle.window_core.specs.Standing.{body_of}
use Rattle.report_block.specs.declared.block.ReportBlock.{ReportBlock}
use Rattle.report_block.specs.Coming.{after_bodies, arrived, arrived_if, is_due, origin_after}
use Rattle.report_block.specs.Due.{due_at, earliest, has_entries, next_integrity, period_end, IsBefore}
use Rattle.report_block.proofs.StandLaws.{due-off}

both-before : (now : ℕ) (x y : Option ℕ) → IsBefore now (earliest x y) → IsBefore now x × IsBefore now y
both-before now None y h = (tt, h)
both-before now (Some m) None h = (h, tt)
both-before now (Some m) (Some n) h = (omega (arith, h), omega (arith, h))

-- ---- what is gathered

not-over : (now buf_tm : ℕ) (g : Option Gathered) → IsBefore now (option_map (λ (g : Gathered). g.moment + buf_tm) g) → option_map_or (λ (g : Gathered). nat_le (g.moment + buf_tm) now) g false ≡ false
not-over now buf_tm None h = refl
not-over now buf_tm (Some g) h = grind (arith, h)

-- ---- integrity

-- no period ends before the end of the one that runs
same-period : (p o was now : ℕ) → 0 < p → now < period_end p o was → nat_lt ((was - o) / p) ((now - o) / p) ≡ false
same-period p o was now some h =
    let below : now - o < ((was - o) / p + 1) * p = omega (arith, h) in
    let few = div_below (now - o) p ((was - o) / p + 1) some below in
    grind (arith, few)

none-ends : (o : Parameters) (k was now : ℕ) → (o.intg_pd == 0) ≡ false → IsBefore now (if has_entries o then Some (period_end o.intg_pd k was) else None) → is_period_over o k was now ≡ false
none-ends o k was now on h = by (not (is_empty o.dat_set)) (bit 4 o.trg_ops) h
  where
    some : 0 < o.intg_pd
    some = elim (eqb_tells o.intg_pd 0) [
      | inl t ↦ cc (t.0, on)
      | inr t ↦ omega (arith, t.1)
    ]

    by : (x y : Bool) → IsBefore now (if x && y then Some (period_end o.intg_pd k was) else None) → (x && y && not (o.intg_pd == 0) && nat_lt ((was - k) / o.intg_pd) ((now - k) / o.intg_pd)) ≡ false
    by true true h = ap (λ t. not t && nat_lt ((was - k) / o.intg_pd) ((now - k) / o.intg_pd)) on ∙ same-period o.intg_pd k was now some h
    by true false h = refl
    by false y h = refl

module _ (was now : ℕ) (part : ReportBlock) where
  abbrev entry_at : ℕ → Option ℕ
  entry_at o = if has_entries part.block.options then Some (period_end part.block.options.intg_pd o was) else None

  period-idle : IsBefore now (next_integrity was part) → (is_due was now part ≡ false) × (origin_after now part ≡ part.origin)
  period-idle h = either (part.block.options.intg_pd == 0) refl
    where
      origin : (t : Bool) → (part.block.options.intg_pd == 0) ≡ t → origin_after now part ≡ (if t then part.origin else Some (unwrap_or part.origin now))
      origin t is = ap (λ t. if t then part.origin else Some (unwrap_or part.origin now)) is

      counted : (x : Option ℕ) → part.origin ≡ x → (part.block.options.intg_pd == 0) ≡ false → IsBefore now (option_map_or entry_at x (Some 0)) → (is_due was now part ≡ false) × (origin_after now part ≡ part.origin)
      counted None is on h = absurd (omega (arith, h))
      counted (Some k) is on h = (
        ap (λ y. option_map_or (λ o. is_period_over part.block.options o was now) y false) is ∙ none-ends part.block.options k was now on h,
        origin false on ∙ (ap (λ y. Some (unwrap_or y now)) is ∙ sym is),
      )

      either : (t : Bool) → (part.block.options.intg_pd == 0) ≡ t → (is_due was now part ≡ false) × (origin_after now part ≡ part.origin)
      either true off = (due-off part.origin part.block.options was now off, origin true off)
      either false on = counted part.origin refl on (subst (λ t. IsBefore now (if t then None else option_map_or entry_at part.origin (Some 0))) on h)

  pub idle-before : (step : ℕ) (all : List Piece) → IsBefore now (due_at was part) → arrived was now step all part ≡ part
  idle-before step all h =
      let s = both-before now (end_of part.window) (next_integrity was part) h in
      let p = period-idle s.1 in
      ap (λ t. arrived_if t now step all part) p.0
      ∙ ap₂ (λ (t : Bool) (o : Option ℕ). record part { window = if t then closed part.window else part.window; ring = after_bodies part.ring (body_of step (if t then part.window.gathered else None)); origin = o })
      (not-over now part.window.buf_tm part.window.gathered s.0) p.1

-- ---- and it stays the moment

-- the period that runs then runs still
period-stays : (p o was now : ℕ) → 0 < p → was ≤ now → now < period_end p o was → period_end p o now ≡ period_end p o was
period-stays p o was now some later h =
    let below : now - o < ((was - o) / p + 1) * p = omega (arith, h) in
    let few = div_below (now - o) p ((was - o) / p + 1) some below in
    let whole : (was - o) / p * p ≤ now - o = omega (arith, later, div-mul-le_self (was - o) p) in
    let many = le-div ((was - o) / p) (now - o) p some whole in
    let same : (now - o) / p ≡ (was - o) / p = omega (arith, few, many) in
    ap (λ q. o + (q + 1) * p) same

module _ (was now : ℕ) (part : ReportBlock) (later : was ≤ now) where
  abbrev entry : ℕ → Bool → ℕ → Option ℕ
  entry at t o = if t then Some (period_end part.block.options.intg_pd o at) else None

  integrity-stays : IsBefore now (next_integrity was part) → next_integrity now part ≡ next_integrity was part
  integrity-stays h = either (part.block.options.intg_pd == 0) refl
    where
      counted : (x : Option ℕ) (t : Bool) → 0 < part.block.options.intg_pd → IsBefore now (option_map_or (entry was t) x (Some 0)) → option_map_or (entry now t) x (Some 0) ≡ option_map_or (entry was t) x (Some 0)
      counted None t some h = refl
      counted (Some k) true some h = ap Some (period-stays part.block.options.intg_pd k was now some later h)
      counted (Some k) false some h = refl

      either : (t : Bool) → (part.block.options.intg_pd == 0) ≡ t → next_integrity now part ≡ next_integrity was part
      either true off = ap (λ t. if t then None else option_map_or (entry now (has_entries part.block.options)) part.origin (Some 0)) off
          ∙ sym (ap (λ t. if t then None else option_map_or (entry was (has_entries part.block.options)) part.origin (Some 0)) off)
      either false on =
          let some : 0 < part.block.options.intg_pd = elim (eqb_tells part.block.options.intg_pd 0) [
            | inl t ↦ cc (t.0, on)
            | inr t ↦ omega (arith, t.1)
          ] in
          ap (λ t. if t then None else option_map_or (entry now (has_entries part.block.options)) part.origin (Some 0)) on
          ∙ (counted part.origin (has_entries part.block.options) some (subst (λ t. IsBefore now (if t then None else option_map_or (entry was (has_entries part.block.options)) part.origin (Some 0))) on h)
          ∙ sym (ap (λ t. if t then None else option_map_or (entry was (has_entries part.block.options)) part.origin (Some 0)) on))

  pub due-stays : IsBefore now (due_at was part) → due_at now part ≡ due_at was part
  due-stays h = ap (earliest (end_of part.window)) (integrity-stays (both-before now (end_of part.window) (next_integrity was part) h).1)
