-- why `groups::Groups::set_all` answers as its contract says
use Rattle.std.proofs.Common.{◌≡◌, ◌∷◌, ◌∙◌, ◌+◌, ℕ, List, Some, drop, sym, ap, subst, arith}
use Rattle.std.proofs.lemmas.List.{drop_more}
use Rattle.std.proofs.lemmas.List.Elements.{All-head, All-tail}
use Rattle.bay_model.specs.declared.step.Setting.{Setting}
use Rattle.setting_groups.specs.Frames.{ArePut, IsPut}
use Rattle.setting_groups.specs.Grouped.{Grouped, after_values, after_setting, place_in}
use Rattle.setting_groups.proofs.FrameLaws.{like-one, place-within, put-like}
use Rattle.setting_groups.proofs.groups.Groups.set_all.Goals as goal

pub set-requires : goal.set-requires
set-requires c =
    let vs = c.args.settings.now in
    let i = c.loop-setting.setting-index in
    let v = c.setting-item.result in
    let s = c.loop-setting.self in
    let next : drop i vs ≡ v ∷ drop (i + 1) vs = drop_more vs i v (omega arith) ∙ ap (λ x. x ∷ drop (i + 1) vs) (sym c.setting-item.is) in
    All-head (λ (t : Setting). (k : ℕ) → place_in t.attr.0 s.settings ≡ Some k → IsPut s t k) v (drop (i + 1) vs) (subst (ArePut s) next c.loop-setting.invariant.fit)

pub loop-setting-preserved : goal.loop-setting-preserved
loop-setting-preserved c =
    let vs = c.args.settings.now in
    let i = c.loop-setting.setting-index in
    let v = c.setting-item.result in
    let s = c.loop-setting.self in
    let rest : List Setting = drop (i + 1) vs in
    let next : drop i vs ≡ v ∷ rest = drop_more vs i v (omega arith) ∙ ap (λ x. x ∷ drop (i + 1) vs) (sym c.setting-item.is) in
    record {
      done = ap (after_values rest) c.set.ensures ∙ (ap (λ l. after_values l s) (sym next) ∙ c.loop-setting.invariant.done);
      fit = subst (λ (g : Grouped). ArePut g rest) (sym c.set.ensures) (put-like s (after_setting v s) rest (like-one s v (place-within v.attr.0 s.settings))
          (All-tail (λ (t : Setting). (k : ℕ) → place_in t.attr.0 s.settings ≡ Some k → IsPut s t k) v rest (subst (ArePut s) next c.loop-setting.invariant.fit)));
    }
