-- What the SG attributes of a domain are set to when its active group is another, or holds other values (IEC 61850-7-2, SelectActiveSG
-- and ConfirmEditSGValues).
use Rattle.std.specs.Prelude.{ℕ, ◌==◌, List, [], ◌∷◌, slice_index_or, if◌then◌else◌}
use Rattle.bay_model.specs.declared.step.Setting.{Setting}
use Rattle.setting_groups.specs.Grouped.{Settled, Grouped, active_place, domain_at}

-- an SG attribute gets what the group at a place holds
abbrev pub loading : ℕ → Settled → Setting
loading i t = record { attr = record { 0 = t.attr }; value = (slice_index_or t.groups i t.copy).value }

abbrev pub loading_if : ℕ → ℕ → Settled → List Setting → List Setting
loading_if d i t more = if t.domain == d then loading i t ∷ more else more

-- each of domain d does
abbrev pub loadings : ℕ → ℕ → List Settled → List Setting
loadings d i [] = []
loadings d i (t ∷ ts) = loading_if d i t (loadings d i ts)

-- what the active group of domain d holds
abbrev pub active_settings : ℕ → Grouped → List Setting
active_settings d s = loadings d (active_place (domain_at s d)) s.settings
