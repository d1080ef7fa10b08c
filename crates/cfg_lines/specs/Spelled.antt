-- How a line is spelled: its words, and a space between each two.
use Rattle.std.specs.Prelude.{ℕ, List, [], ◌∷◌, map, codes}
use Rattle.std.specs.Fmt.{decimal}
use Rattle.std.specs.List.{join_with_byte}
use Rattle.sv_base.specs.Same.{values_of}
use Rattle.cfg_lines.specs.declared.line.Line.{Line}
use Rattle.cfg_lines.specs.declared.line.Line.TheVariants as lines
use Rattle.text_words.specs.Spelled.{text_word, bits_word, value_word, type_word, flags_word}

-- the words of a line; none where it is empty or a remark
unfoldable pub words : Line → List (List ℕ)
words lines.Skip = []
words lines.Config = codes "config" ∷ codes "1" ∷ []
words (lines.Server vendor model revision) = codes "server" ∷ vendor ∷ model ∷ revision ∷ []
words (lines.Ld name) = codes "ld" ∷ name ∷ []
words (lines.Ln node) = codes "ln" ∷ node.ln ∷ []
words (lines.Attr attr) = codes "attr" ∷ attr.fc ∷ attr.path ∷ type_word attr.kind ∷ flags_word attr.dchg attr.qchg attr.dupd ∷ map value_word (values_of attr.values)
words (lines.Set set) = codes "set" ∷ set.name ∷ []
words (lines.Member reference) = codes "member" ∷ reference ∷ []
words (lines.Brcb block) =
    codes "brcb" ∷ block.name ∷ text_word block.rpt_id ∷ text_word block.dat_set ∷ decimal block.conf_rev ∷ bits_word block.opt_flds ∷ decimal block.buf_tm ∷ bits_word block.trg_ops
    ∷ decimal block.intg_pd ∷ decimal block.capacity ∷ []
words (lines.Ctl control) = codes "ctl" ∷ control.path ∷ decimal control.model ∷ decimal control.timeout ∷ decimal control.class ∷ type_word control.kind ∷ []
words (lines.Sgcb groups) = codes "sgcb" ∷ decimal groups.count ∷ decimal groups.active ∷ []
words lines.End = codes "end" ∷ []

abbrev pub spelled : Line → List ℕ
spelled line = join_with_byte 32 (words line)
