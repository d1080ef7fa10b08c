-- An input brings one thing.
use Rattle.std.specs.Prelude.{◌≡◌}

-- what it brings is one value, what it is refused for is one cause, and it is never both
pub record IsOneWay {Y F : Type 0} (IsSpelled : Y → Type 0) (IsRefused : F → Type 0) : Type 0 where
  pub one_value : (x y : Y) → IsSpelled x → IsSpelled y → x ≡ y
  pub one_cause : (f g : F) → IsRefused f → IsRefused g → f ≡ g
  pub not_both : (x : Y) (f : F) → IsSpelled x → IsRefused f → ⊥
