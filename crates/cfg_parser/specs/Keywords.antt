-- The first words of the lines of a configuration.
use Rattle.std.specs.Prelude.{ℕ, List, codes, Option, Some, None, if◌then◌else◌}
use Rattle.std.specs.Str.{bytes_eq}
use Rattle.cfg_parser.specs.declared.keyword.Keyword.{Keyword}
use Rattle.cfg_parser.specs.declared.keyword.Keyword.TheVariants as keywords

abbrev pub keyword_at : List ℕ → Option Keyword
keyword_at word =
    if bytes_eq word (codes "config") then Some keywords.Config
    else if bytes_eq word (codes "server") then Some keywords.Server
    else if bytes_eq word (codes "ld") then Some keywords.Ld
    else if bytes_eq word (codes "ln") then Some keywords.Ln
    else if bytes_eq word (codes "attr") then Some keywords.Attr
    else if bytes_eq word (codes "set") then Some keywords.Set
    else if bytes_eq word (codes "member") then Some keywords.Member
    else if bytes_eq word (codes "brcb") then Some keywords.Brcb
    else if bytes_eq word (codes "ctl") then Some keywords.Ctl
    else if bytes_eq word (codes "sgcb") then Some keywords.Sgcb
    else if bytes_eq word (codes "end") then Some keywords.End
    else None
