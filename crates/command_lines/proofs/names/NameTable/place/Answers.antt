use Rattle.std.proofs.Common.{◌∙◌, sym, ap, nat_eq}
use Rattle.std.specs.Cmp.Lexicographic.{pointwise}
use Rattle.command_lines.specs.Names.{place_of}
use Rattle.command_lines.proofs.NameLemmas.{position-map}
use Rattle.command_lines.proofs.names.NameTable.place.Goals as goal

pub returns-clause-value : goal.returns-clause-value
returns-clause-value c =
    c.get_index_of.ensures.index
    ∙ sym (position-map (pointwise nat_eq c.args.name.now) (λ name. name.items) c.self.inside.names.keys)
    ∙ ap (λ names. place_of names c.args.name.now) c.self.view_is
