-- A text's first refused line, and its configuration, by the model that its lines make.
use Rattle.std.proofs.Common.{◌≡◌, ℕ, ◌==◌, ◌||◌, ◌&&◌, Bool, true, false, List, [], ◌∷◌, length, refl, ap, ap₂, subst, ◌∙◌, if◌then◌else◌}
use Rattle.std.specs.Prelude.{Result, Ok, Err}
use Rattle.std.proofs.lemmas.List.Splits.{join_with_byte-slice_split}
use Rattle.bay_model.specs.Model.{Model}
use Rattle.bay_model.specs.Named.{configured_model}
use Rattle.cfg_lines.specs.Before.{number_of, place_of}
use Rattle.cfg_lines.specs.Configs.{config_of}
use Rattle.cfg_lines.specs.Nodes.{is_node, is_member_node}
use Rattle.cfg_lines.specs.declared.line.Line.{Line}
use Rattle.cfg_lines.specs.declared.line.Line.TheVariants as lines
use Rattle.cfg_lines.specs.declared.line.Place.TheVariants as places
use Rattle.cfg_parser.specs.declared.fault.Kind.TheVariants as kinds
use Rattle.cfg_parser.specs.declared.fault.CfgFault.{CfgFault}
use Rattle.cfg_parser.specs.declared.fault.CfgFault.TheVariants as faults
use Rattle.cfg_parser.specs.Text.{pieces, lines_at}
use Rattle.cfg_parser.specs.Looking.{look_at, looked_at, config_at, ◌>>=◌}
use Rattle.cfg_grammar.specs.Follows.{Follows}
use Rattle.cfg_grammar.specs.Texts.{AreLines}
use Rattle.cfg_text.proofs.WholeLaws.{lines-told}
use Rattle.name_trees.specs.ByModel.{look_by, looked_by, config_by}
use Rattle.name_trees.proofs.SetLaws.{sets-agree}
use Rattle.name_trees.proofs.NodeLaws.{nodes-agree}
use Rattle.name_trees.proofs.AllowedLaws.{members-agree}

abbrev Found : Type 0
Found = Result (Unit {0}) CfgFault

abbrev the_found : Found → Found
the_found x = x

in-turn : (a b : Bool) (x y z : Found) → (if a then (if b then x else y) else z) ≡ (if a && b then x else if a then y else z)
in-turn true true x y z = refl
in-turn true false x y z = refl
in-turn false b x y z = refl

module _ (text : List ℕ) (told : List Line) (are : AreLines text told) where
  abbrev m : Model
  m = configured_model (config_of told)

  look-same : (before : List Line) (number : ℕ) (line : Line) → Follows before line → look_at told number line ≡ look_by m number line
  unfolding look_at
  look-same before number (lines.Brcb block) f = ap (λ b. if (length block.dat_set == 0) || b then (the_found (Ok tt)) else Err (faults.Refused number kinds.Unknown)) (sets-agree told block.dat_set)
  look-same before number (lines.Member reference) f =
      in-turn (is_node told reference) (is_member_node told reference) (Ok tt) (Err (faults.Refused number kinds.Member)) (Err (faults.Refused number kinds.Unknown))
      ∙ ap₂ (λ may there. if may then (the_found (Ok tt)) else if there then Err (faults.Refused number kinds.Member) else Err (faults.Refused number kinds.Unknown))
      (members-agree text told reference are f.name) (nodes-agree text told reference are f.name)
  look-same before number line f = refl

  looked-same : (front : List ℕ) (before : List Line) → AreLines front before → looked_at told before ≡ looked_by m before
  looked-same front [] h = refl
  looked-same front (line ∷ before) h = ap (λ r. r >>= λ _. look_at told (number_of before) line) (looked-same h.0 before h.3) ∙ ap (λ r. looked_by m before >>= λ _. r) (look-same before (number_of before) line h.4.follows)

lines-are : (text : List ℕ) (told : List Line) → lines_at text ≡ Ok told → AreLines text told
unfolding lines_at
lines-are text told e = let whole = subst (λ t. AreLines t told × (place_of told ≡ places.Ended)) (join_with_byte-slice_split 10 text) (lines-told [] [] (pieces text) told refl e) in whole.0

pub by-the-model : (text : List ℕ) → config_at text ≡ config_by text
unfolding config_at
by-the-model text = by (lines_at text) refl
  where
    by : (told : Result (List Line) CfgFault) → lines_at text ≡ told → (told >>= λ t. looked_at t t >>= λ _. Ok (config_of t)) ≡ (told >>= λ t. looked_by (configured_model (config_of t)) t >>= λ _. Ok (config_of t))
    by (Ok t) e = let are = lines-are text t e in ap (λ r. r >>= λ _. Ok (config_of t)) (looked-same text t are text t are)
    by (Err fault) e = refl
