-- The trees of names of the example configurations, written out from IEC 61850-8-1.
use Rattle.std.specs.Prelude.{◌≡◌, ℕ, List, [], ◌∷◌, ◌++◌, map, filter, slice_get, option_map, Some, codes}
use Rattle.sv_base.specs.Types.{no_field, field, simple, composed, text, uint}
use Rattle.sv_base.specs.declared.types.TypeOf.TheVariants as types
use Rattle.bay_model.specs.Model.{Node, Attr, reported, writable, active, edited}
use Rattle.bay_examples.specs.Example.{example}
use Rattle.bay_examples.specs.ExampleControl.{example_control}
use Rattle.bay_examples.specs.ExampleConfig.{bay, example_config, control_config, varied_config}
use Rattle.bay_model.specs.Attributes.{attributes}
use Rattle.bay_model.specs.Places.{Place, largest}
use Rattle.bay_model.specs.Named.{nodes, places_in, configured_model}

-- the example bay, and the one with a control of ctlModel 4, are those of their configurations
abbrev pub ExampleNamed : Type 0
ExampleNamed = (configured_model example_config ≡ example 200) × (configured_model control_config ≡ example_control)

abbrev pub items : List ℕ → List (List ℕ)
items domain = map (λ (p : Place). p.item) (places_in varied_config domain)

-- B comes before A, and takes its part u back to where it stands first
abbrev pub FirstNamed : Type 0
FirstNamed = items bay ≡ codes "GGIO1" ∷ codes "GGIO1$ST" ∷ codes "GGIO1$ST$B" ∷ codes "GGIO1$ST$B$v" ∷ codes "GGIO1$ST$B$u" ∷ codes "GGIO1$ST$A" ∷ codes "GGIO1$ST$A$v" ∷ []

abbrev pub command_items : List ℕ → List (List ℕ)
command_items call = (codes "PTOC1$CO$Op$" ++ call) ∷ map (λ part. codes "PTOC1$CO$Op$" ++ call ++ part) (codes "$ctlVal" ∷ codes "$origin" ∷ codes "$origin$orCat" ∷ codes "$origin$orIdent" ∷ codes "$ctlNum" ∷ codes "$T" ∷ codes "$Test" ∷ [])

-- the block of the setting groups, the edited twin, SBO, Oper and Cancel of ctlModel 2, and its CF attributes
abbrev pub GeneratedNamed : Type 0
GeneratedNamed = items (codes "SET1") ≡ (codes "LLN0" ∷ codes "LLN0$SP" ∷ codes "LLN0$SP$SGCB" ∷ codes "LLN0$SP$SGCB$NumOfSG" ∷ codes "LLN0$SP$SGCB$ActSG" ∷ codes "LLN0$SP$SGCB$EditSG" ∷ codes "LLN0$SP$SGCB$CnfEdit"
    ∷ codes "LLN0$SP$SGCB$LActTm" ∷ codes "LLN0$SP$NamPlt" ∷ codes "PTOC1" ∷ codes "PTOC1$SG" ∷ codes "PTOC1$SG$StrVal" ∷ codes "PTOC1$SG$StrVal$setMag" ∷ codes "PTOC1$SE" ∷ codes "PTOC1$SE$StrVal" ∷ codes "PTOC1$SE$StrVal$setMag"
    ∷ codes "PTOC1$CO" ∷ codes "PTOC1$CO$Op" ∷ codes "PTOC1$CO$Op$SBO" ∷ [])
    ++ (command_items (codes "Oper") ++ codes "PTOC1$CO$Op$Oper$Check" ∷ []) ++ command_items (codes "Cancel")
    ++ (codes "PTOC1$CF" ∷ codes "PTOC1$CF$Op" ∷ codes "PTOC1$CF$Op$ctlModel" ∷ codes "PTOC1$CF$Op$sboTimeout" ∷ codes "PTOC1$CF$Op$sboClass" ∷ codes "PTOC1$CF$Op$dbg" ∷ [])

-- attributes: 0 to 5 of the lines, 6 to 8 of the control, 9 the twin of 4
abbrev pub AttributesNumbered : Type 0
AttributesNumbered = (map (λ (a : Attr). a.access) (attributes varied_config) ≡ reported ∷ reported ∷ reported ∷ writable ∷ active ∷ writable ∷ reported ∷ reported ∷ reported ∷ edited ∷ [])
    × (map (λ (a : Attr). a.domain) (attributes varied_config) ≡ 0 ∷ 0 ∷ 0 ∷ 1 ∷ 1 ∷ 1 ∷ 1 ∷ 1 ∷ 1 ∷ 1 ∷ [])
    × (map (λ (p : Place). p.attrs) (places_in varied_config bay) ≡ (0 ∷ 2 ∷ 1 ∷ []) ∷ (0 ∷ 2 ∷ 1 ∷ []) ∷ (0 ∷ 2 ∷ []) ∷ (0 ∷ []) ∷ (2 ∷ []) ∷ (1 ∷ []) ∷ (1 ∷ []) ∷ [])

-- members may be neither a logical node, nor what holds the block of setting groups or is a part of it, nor a twin, nor anything
-- under CO, nor B and what holds it, whose Data has up to 520 octets
abbrev pub MembersAllowed : Type 0
MembersAllowed = map (λ (n : Node). n.item) (filter (λ (n : Node). n.allowed) (nodes varied_config))
    ≡ codes "GGIO1$ST$B$v" ∷ codes "GGIO1$ST$B$u" ∷ codes "GGIO1$ST$A" ∷ codes "GGIO1$ST$A$v" ∷ codes "LLN0$SP$NamPlt" ∷ codes "PTOC1$SG" ∷ codes "PTOC1$SG$StrVal" ∷ codes "PTOC1$SG$StrVal$setMag"
    ∷ codes "PTOC1$CF" ∷ codes "PTOC1$CF$Op" ∷ codes "PTOC1$CF$Op$ctlModel" ∷ codes "PTOC1$CF$Op$sboTimeout" ∷ codes "PTOC1$CF$Op$sboClass" ∷ codes "PTOC1$CF$Op$dbg" ∷ []

-- the type of the first logical node, and the octets of its largest Data and of those of its parts
abbrev pub TypesNamed : Type 0
TypesNamed = (option_map (λ (p : Place). p.kind) (slice_get (places_in varied_config bay) 0) ≡ Some (types.Struct (field (codes "ST") (composed (field (codes "B") (composed (field (codes "v") (simple (text 255)) (field (codes "u") (simple (text 255)) no_field)))
    (field (codes "A") (composed (field (codes "v") (simple (uint 16)) no_field)) no_field))) no_field)))
    × (map (λ (p : Place). largest p.kind) (places_in varied_config bay) ≡ 535 ∷ 531 ∷ 520 ∷ 258 ∷ 258 ∷ 7 ∷ 5 ∷ [])
