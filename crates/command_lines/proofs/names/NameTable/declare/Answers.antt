use Rattle.std.proofs.Common.{◌∙◌, ap, map}
use Rattle.command_lines.proofs.NameLemmas.{declared}
use Rattle.command_lines.proofs.names.NameTable.declare.Goals as goal

pub returns : goal.returns
returns c =
    ap (λ keys. map (λ name. name.items) keys) c.in_ok-insert.ensures.keys
    ∙ declared (λ name. name.items) c.self.inside.names.keys c.in_ok-from_slice.field-0 c.args.self.now c.args.name.now
    c.self.view_is c.in_ok-from_slice.ensures.items c.requires
