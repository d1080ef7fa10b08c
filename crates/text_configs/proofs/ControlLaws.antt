-- What the controls of a configuration's text are.
use Rattle.std.proofs.Common.{◌≡◌, ◌==◌, ◌⊎◌, inl, inr, Bool, true, false, ℕ, ◌<◌, ◌≤◌, ◌^◌, List, [], ◌∷◌, ◌++◌, length, refl, sym, ap, subst, arith, length-append, if◌then◌else◌}
use Rattle.std.specs.Prelude.{codes}
use Rattle.std.specs.List.{All}
use Rattle.sv_base.specs.declared.config.LnDef.{LnDef}
use Rattle.sv_base.specs.declared.config.CtlDef.{CtlDef}
use Rattle.sv_base.specs.declared.types.TypeOf.{TypeOf}
use Rattle.sv_base.specs.declared.types.TypeOf.TheVariants as types
use Rattle.bay_model.specs.NamedLines.{path_item}
use Rattle.cfg_lines.specs.Before.{controls, domain_of, node_of}
use Rattle.cfg_lines.specs.Configs.{config_of}
use Rattle.cfg_lines.specs.declared.line.Line.{Line}
use Rattle.cfg_lines.specs.declared.line.Line.TheVariants as lines
use Rattle.cfg_lines.specs.Paths.{below}
use Rattle.cfg_grammar.specs.Follows.{IsPath, IsItem, IsControl, longest_part}
use Rattle.cfg_grammar.specs.Texts.{AreLines}
use Rattle.control_core.specs.Opening.{IsCtlKind}
use Rattle.list_laws.proofs.Among.{Among, all-of, ending}
use Rattle.text_configs.proofs.StandLaws.{IsIn, in-more, in-node}

pub record IsReadControl (nodes : List LnDef) (k : CtlDef) : Type 0 where
  pub kind : IsCtlKind k.kind
  pub model : k.model ≤ 4
  pub class : k.class ≤ 1
  pub timeout : k.timeout < 2 ^ 32
  pub node : IsIn nodes k.domain k.ln
  pub path : IsPath k.path
  -- its longest part is `Oper$origin$orIdent`, or longer
  pub short : length (path_item k.ln (codes "CO") k.path) ≤ 44

of-kind : (t : TypeOf) → (t ≡ types.Bool) ⊎ (t ≡ types.Int 32) → IsCtlKind t
of-kind t (inl is) = subst IsCtlKind (sym is) tt
of-kind t (inr is) = subst IsCtlKind (sym is) refl

read-more : (nodes : List LnDef) (node : LnDef) (k : CtlDef) → IsReadControl nodes k → IsReadControl (nodes ++ node ∷ []) k
read-more nodes node k h = record { kind = h.kind; model = h.model; class = h.class; timeout = h.timeout; node = in-more nodes node k.domain k.ln h.node; path = h.path; short = h.short }

long-part : (model : ℕ) → 19 ≤ length (longest_part model)
long-part model = by (model == 2) (model == 4)
  where
    by : (two four : Bool) → 19 ≤ length (if two then codes "Cancel$origin$orIdent" else if four then codes "Cancel$origin$orIdent" else codes "Oper$origin$orIdent")
    by true four = omega arith
    by false true = omega arith
    by false false = omega arith

short-item : (ln path part : List ℕ) → 19 ≤ length part → IsItem ln (codes "CO") (below path part) → length (path_item ln (codes "CO") path) ≤ 44
short-item ln path part long h = omega (arith, h, long, length-append (below ln (codes "CO")) (36 ∷ below path part), length-append (below ln (codes "CO")) (36 ∷ path), length-append path (36 ∷ part))

control-read : (before : List Line) (nodes : List LnDef) (control : CtlDef) → IsIn nodes (domain_of before) (node_of before) → IsControl before control → IsReadControl nodes control
control-read before nodes control node h =
    let d : control.domain ≡ domain_of before = ap (λ (k : CtlDef). k.domain) h.here in
    let l : control.ln ≡ node_of before = ap (λ (k : CtlDef). k.ln) h.here in
    let at : IsIn nodes (domain_of before) control.ln = subst (IsIn nodes (domain_of before)) (sym l) node in
    record {
      kind = of-kind control.kind h.type_;
      model = h.model;
      class = h.class;
      timeout = omega (arith, h.timeout.1);
      node = subst (λ x. IsIn nodes x control.ln) (sym d) at;
      path = h.path;
      short = subst (λ x. length (path_item x (codes "CO") control.path) ≤ 44) (sym l) (short-item (node_of before) control.path (longest_part control.model) (long-part control.model) h.short);
    }

pub controls-read : (told : List Line) (text : List ℕ) → AreLines text told → (k : CtlDef) → Among k (config_of told).controls → IsReadControl (config_of told).nodes k
controls-read [] text h k i = absurd i
controls-read (lines.Ln node ∷ before) text h k i = read-more (config_of before).nodes node k (controls-read before h.0 h.3 k i)
controls-read (lines.Ctl control ∷ before) text h k i = by (ending k (config_of before).controls control i) (controls-read before h.0 h.3 k)
  where
    by : Among k (config_of before).controls ⊎ (k ≡ control) → (Among k (config_of before).controls → IsReadControl (config_of before).nodes k) → IsReadControl (config_of before).nodes k
    by (inl j) go = go j
    by (inr e) go = subst (IsReadControl (config_of before).nodes) (sym e) (control-read before (config_of before).nodes control (in-node before h.0 h.3 h.4.follows.stands) h.4.follows)
controls-read (line ∷ before) text h k i = controls-read before h.0 h.3 k i

pub few-controls : (told : List Line) (text : List ℕ) → AreLines text told → (length (config_of told).controls ≡ controls told) × (controls told ≤ 64)
few-controls [] text h = (refl, omega arith)
few-controls (lines.Ctl control ∷ before) text h = let go = few-controls before h.0 h.3 in (omega (arith, length-append (config_of before).controls (control ∷ []), go.0), omega (arith, h.4.follows.few))
few-controls (line ∷ before) text h = few-controls before h.0 h.3

-- what a bay asks of them
module _ (told : List Line) (text : List ℕ) (are : AreLines text told) where
  pub are-ctl-kinds : All (λ (k : CtlDef). IsCtlKind k.kind) (config_of told).controls
  are-ctl-kinds = all-of (λ (k : CtlDef). IsCtlKind k.kind) (config_of told).controls (λ k i. (controls-read told text are k i).kind)

  pub are-in-range : All (λ (k : CtlDef). (k.model ≤ 4) × (k.class ≤ 1)) (config_of told).controls
  are-in-range = all-of (λ (k : CtlDef). (k.model ≤ 4) × (k.class ≤ 1)) (config_of told).controls (λ k i. let r = controls-read told text are k i in (r.model, r.class))

  pub are-timed : All (λ (k : CtlDef). k.timeout < 2 ^ 32) (config_of told).controls
  are-timed = all-of (λ (k : CtlDef). k.timeout < 2 ^ 32) (config_of told).controls (λ k i. (controls-read told text are k i).timeout)
