use Rattle.std.specs.Option.{option_map}
use Rattle.word.specs.Records.{symbol_of}
use Rattle.expr.specs.Records.{env_of}
use Rattle.book.specs.Records.{form_of}
use Rattle.books.proofs.Growing.{all_named}
use Rattle.books.proofs.rule.Rule.give.Goals as goal

pub returns : goal.returns
returns c =
    let h = c.args.self.now.head in
    let s = symbol_of c.args.site.module in
    all_named (option_map form_of h.before) (option_map form_of h.behind) (option_map symbol_of c.args.site.left) (option_map symbol_of c.args.site.right) (form_of h.predecessor).names s.params
    (env_of c.args.names.now) (env_of c.give_beside.new.names) (env_of c.give.new.names) (env_of c.give_beside-2.new.names)
    c.requires c.give_beside.ensures c.give.ensures c.give_beside-2.ensures
