-- No member of a data set of a configuration is an Oper.
use Rattle.std.proofs.Common.{◌≡◌, ℕ, true, List, [], ◌∷◌, refl, arith, inl, inr}
use Rattle.std.specs.List.{All}
use Rattle.list_laws.proofs.Among.{all-of, of-all}
use Rattle.sv_base.specs.declared.config.Config.{Config}
use Rattle.bay_model.specs.Lookups.{node_of}
use Rattle.bay_model.specs.Model.{Model, DataSet, Role, single, selecting, calling, several}
use Rattle.bay_model.specs.Named.{configured_model}
use Rattle.bay_config.specs.Servable.{IsMember, IsServedSet, IsServable}
use Rattle.bay_replies.specs.Plain.{SelectsNothing}
use Rattle.bay_replies.proofs.GivenLaws.{plain-at}
use Rattle.history_laws.specs.Opers.{opers_at, opers_among, AreApart}

no-oper : (c : Model) (r : Role) → SelectsNothing r → opers_at c r ≡ 0
no-oper c (single l) h = refl
no-oper c (selecting k) h = refl
no-oper c (calling k call) h = absurd h
no-oper c several h = refl

module _ (c : Config) (served : IsServable c) where
  allowed-none : (n : ℕ) → (node_of (configured_model c) n).allowed ≡ true → opers_at (configured_model c) (node_of (configured_model c) n).role ≡ 0
  allowed-none n h = no-oper (configured_model c) (node_of (configured_model c) n).role ((plain-at c served.grouped n).member h)

  members-none : (ns : List ℕ) → All (IsMember c) ns → opers_among (configured_model c) ns ≡ 0
  members-none [] all = refl
  members-none (n ∷ ns) all =
      let rest = all-of (IsMember c) ns (λ x i. of-all (IsMember c) (n ∷ ns) x all (inr i)) in
      let first = of-all (IsMember c) (n ∷ ns) n all (inl refl) in
      omega (arith, allowed-none n first.allowed, members-none ns rest)

  pub are-apart : AreApart (configured_model c)
  are-apart = record {
    configured = all-of (λ (s : DataSet). opers_among (configured_model c) s.nodes ≡ 0) (configured_model c).sets (λ s i. let set = of-all (IsServedSet c) (configured_model c).sets s served.sets i in members-none s.nodes set.members);
    defined = allowed-none;
  }
