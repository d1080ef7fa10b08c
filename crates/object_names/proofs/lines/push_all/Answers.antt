-- why `lines::push_all` answers as its contract says
use Rattle.std.proofs.Common.{refl, sym, ap, subst, arith, length, append_assoc}
use Rattle.std.specs.Prelude.{flat_map}
use Rattle.bay_model.specs.Generated.{parameters}
use Rattle.object_names.specs.Items.{AreReferenced}
use Rattle.object_names.proofs.ItemLaws.{referenced}
use Rattle.object_names.proofs.lines.push_all.Goals as goal

pub returns : goal.returns
returns c = rw (c.in_ok-push_groups.ensures, c.in_ok-push_controls.ensures, c.in_ok-push_blocks.ensures, c.in_ok-push_attrs.ensures, c.in_ok-push_nodes.ensures, c.in_ok-first_twin.ensures, c.in_ok-generated_count.ensures, c.in_ok-attr_count.ensures, c.len.ensures, c.as_slice.ensures, c.as_slice-2.ensures, c.as_slice-3.ensures, c.as_slice-4.ensures, c.as_slice-5.ensures, c.as_slice-6.ensures, c.requires.domains) (simp append_assoc refl)

pub push_attrs-requires : goal.push_attrs-requires
push_attrs-requires c = subst (AreReferenced c.args.references.now 0 c.in_ok-first_twin.first_twin) (sym c.as_slice-3.ensures)
    (referenced c.args.config.now c.args.references.now c.in_ok-first_twin.first_twin c.requires.references
    (omega (arith, c.in_ok-first_twin.ensures, c.in_ok-attr_count.ensures, c.len.ensures, c.in_ok-generated_count.ensures, ap (λ ks. length (flat_map parameters ks)) c.as_slice.ensures)))
