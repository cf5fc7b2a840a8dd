use Rattle.std.proofs.Common.{◌≡◌, sym, subst, ◌∙◌, refl, true, false}
use Rattle.tt.specs.Views.{forest}
use Rattle.mbe_rules.specs.Ops.{items_of, rule_of}
use Rattle.mbe.specs.mbe_transcriber.Markers.{is_name}
use Rattle.mbe_explain.specs.Rules.{IsStop}
use Rattle.mbe_explain.proofs.FilledLemmas.{unfit-unread}
use Rattle.mbe_explain.proofs.rules.rule_stop.Goals as goal
use Rattle.mbe_explain.proofs.rules.rule_stop.Goals.{then-eq+in_ok-fits, else-eq}

pub returns-clause-told : goal.returns-clause-told
returns-clause-told g c =
    let gr = g.G.FragmentGrammar.answer c.args.grammar.now in
    let rule = rule_of c.args.rule.now in
    let argument = forest c.args.argument in
    let stop = c.in_ok-stop.stop in
    let here : IsStop gr (items_of c.deref.result.now) argument stop = record {
      matches = c.in_ok-stop.ensures.matches;
      unread = c.in_ok-stop.ensures.unread;
      ambiguous = c.in_ok-stop.ensures.ambiguous;
      two = c.in_ok-stop.ensures.two;
      wanted = c.in_ok-stop.ensures.wanted;
      left = c.in_ok-stop.ensures.left;
      at = c.in_ok-stop.ensures.at;
    } in
    let told : IsStop gr rule.pattern argument stop = subst (λ ops. IsStop gr (items_of ops) argument stop) c.deref.ensures.value here in
    record {
      number = refl;
      stop = told;
      fits = λ mark. elim c.if-eq.branch [
        | then-eq+in_ok-fits w ↦ w.fits-is ∙ w.in_ok-fits.ensures.fits mark
        | else-eq w ↦
            w.fits-is ∙ w.if-eq.false
            ∙ unfit-unread is_name gr mark rule argument
            (λ read.
            let kind = told.matches.1 read in
            let same : c.eq.result ≡ true = rw kind at c.eq.ensures in
            let no : true ≡ false = sym same ∙ w.if-eq.false in absurd (cc no))
      ];
    }
