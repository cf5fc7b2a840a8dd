use Rattle.tt.specs.Views.{forest}
use Rattle.example_grammar.specs.ItemLaws.{item-is}
use Rattle.example_grammar.proofs.items.WithItemsFragmentGrammar.prefix.Goals as goal

pub returns-in-Item : goal.returns-in-Item
returns-in-Item g c =
    item-is (g.G.FragmentGrammar.answer c.args.self.now.inner) c.args.entry (forest c.args.input)
    c.steps.result c.is_empty.result c.in-Item.is c.steps.ensures c.is_empty.ensures
