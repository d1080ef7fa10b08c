-- What a control names under CO stands below its path, and isn't long.
use Rattle.std.proofs.Common.{◌≡◌, ℕ, ◌≤◌, ◌==◌, Bool, true, false, List, [], ◌∷◌, ◌++◌, map, length, refl, ◌∙◌, arith, append_assoc, length-append, if◌then◌else◌}
use Rattle.std.specs.Prelude.{codes}
use Rattle.sv_base.specs.declared.config.CtlDef.{CtlDef}
use Rattle.sv_base.specs.declared.types.TypeOf.{TypeOf}
use Rattle.sv_base.specs.declared.types.TypeOf.TheVariants as types
use Rattle.sv_base.specs.CallParts.{command_parts}
use Rattle.bay_model.specs.Model.{Call, select, operate, cancel, selecting, calling}
use Rattle.bay_model.specs.Generated.{Named, within, structure_named, part_named, parts_of_call, command_names, is_selected, sbo_names, sbow_names, oper_names, cancel_names, control_names}
use Rattle.list_laws.proofs.Among.{Among, Each, of-each, each-both}

pub record IsWithin (item : List ℕ) (n : Named) : Type 0 where
  pub more : List ℕ
  pub is : n.item ≡ item ++ 36 ∷ more
  pub short : length more ≤ 21

module _ (k : ℕ) (kind : TypeOf) (item name : List ℕ) (few : length name ≤ 6) where
  part : (n : Named) (q : List ℕ) → n.item ≡ within (within item name) q → length q ≤ 14 → IsWithin item n
  part n q e le = record { more = name ++ 36 ∷ q; is = e ∙ append_assoc item (36 ∷ name) (36 ∷ q); short = omega (arith, few, le, length-append name (36 ∷ q)) }

  own : (call : Call) → IsWithin item (structure_named (within item name) (calling k call))
  own call = record { more = name; is = refl; short = omega (arith, few) }

  command-parts : (call : Call) → Each (IsWithin item) (command_names k kind (within item name) call)
  command-parts call = (own call, by call)
    where
      with-check : Each (IsWithin item) (map (part_named kind (within item name)) command_parts)
      with-check = (
        part _ (codes "ctlVal") refl (omega arith),
        (
          part _ (codes "origin$orCat") refl (omega arith),
          (
            part _ (codes "origin$orIdent") refl (omega arith),
            (part _ (codes "ctlNum") refl (omega arith), (part _ (codes "T") refl (omega arith), (part _ (codes "Test") refl (omega arith), (part _ (codes "Check") refl (omega arith), tt)))),
          ),
        ),
      )

      by : (call : Call) → Each (IsWithin item) (map (part_named kind (within item name)) (parts_of_call call))
      by select = with-check
      by operate = with-check
      by cancel = (
        part _ (codes "ctlVal") refl (omega arith),
        (
          part _ (codes "origin$orCat") refl (omega arith),
          (
            part _ (codes "origin$orIdent") refl (omega arith),
            (part _ (codes "ctlNum") refl (omega arith), (part _ (codes "T") refl (omega arith), (part _ (codes "Test") refl (omega arith), tt))),
          ),
        ),
      )

either-way : (item : List ℕ) (b : Bool) (ns : List Named) → Each (IsWithin item) ns → Each (IsWithin item) (if b then ns else [])
either-way item true ns h = h
either-way item false ns h = tt

pub command-within : (k : ℕ) (c : CtlDef) (item : List ℕ) (n : Named) → Among n (control_names k c item) → IsWithin item n
command-within k c item n i = of-each (IsWithin item) (control_names k c item) n all i
  where
    sbo : Each (IsWithin item) (sbo_names k c item)
    sbo = either-way item (c.model == 2) (record { item = within item (codes "SBO"); role = selecting k; kind = types.Text 129 } ∷ []) (record { more = codes "SBO"; is = refl; short = omega arith }, tt)

    sbow : Each (IsWithin item) (sbow_names k c item)
    sbow = either-way item (c.model == 4) _ (command-parts k c.kind item (codes "SBOw") (omega arith) select)

    cancels : Each (IsWithin item) (cancel_names k c item)
    cancels = either-way item (is_selected c) _ (command-parts k c.kind item (codes "Cancel") (omega arith) cancel)

    all : Each (IsWithin item) (control_names k c item)
    all = each-both (IsWithin item) (sbo_names k c item) _ sbo (each-both (IsWithin item) (sbow_names k c item) _ sbow
        (each-both (IsWithin item) (oper_names k c item) (cancel_names k c item) (command-parts k c.kind item (codes "Oper") (omega arith) operate) cancels))
