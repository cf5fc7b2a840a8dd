use Rattle.expander.proofs.SameTextLemmas.{text_decides}
use Rattle.expander.proofs.laws.the_text_alone_decides.Goals as goal

pub returns : goal.returns
returns c = λ layers depth one two ones twos first second reply other h k same. text_decides layers depth one two ones twos first second reply other h k same
