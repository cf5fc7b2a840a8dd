use Rattle.std.proofs.Common.{codes}
use Rattle.clap.specs.Words.{found_of}
use Rattle.command_line.proofs.CommandLemmas.{diagnostics_are, file_is, flag_is, option_is}
use Rattle.command_line.proofs.request.job_of.Goals as goal

pub returns-clause-words : goal.returns-clause-words
returns-clause-words c = record {
  options = c.in-Some.ensures;
  has_layout =
      flag_is (found_of c.args.matches.now) (codes "layout") c.get_flag.result c.get_flag.ensures.none
      c.get_flag.ensures.value c.get_flag.ensures.other;
  has_json =
      flag_is (found_of c.args.matches.now) (codes "json") c.get_flag-2.result c.get_flag-2.ensures.none
      c.get_flag-2.ensures.value c.get_flag-2.ensures.other;
  has_apart =
      flag_is (found_of c.args.matches.now) (codes "files") c.get_flag-3.result c.get_flag-3.ensures.none
      c.get_flag-3.ensures.value c.get_flag-3.ensures.other;
  has_diagnostics = diagnostics_are (λ s. s.now) (found_of c.args.matches.now) (codes "diagnostics") c.get_str.result _ c.get_str.ensures c.diagnostics_of.ensures;
  has_library = option_is (λ s. s.now) (found_of c.args.matches.now) (codes "std") c.get_str-2.result c.get_str-2.ensures;
  has_with = c.in_ok-words_of.ensures;
  has_cfg = c.in_ok-words_of-2.ensures;
  has_file = file_is (λ s. s.now) (found_of c.args.matches.now) (codes "file") c.get_str-3.result _ c.get_str-3.ensures c.file_of.ensures;
  has_files = c.in_ok-words_of-3.ensures;
  has_externs = c.in_ok-words_of-4.ensures;
  has_root = option_is (λ s. s.now) (found_of c.args.matches.now) (codes "crate") c.get_str-4.result c.get_str-4.ensures;
  has_steps = option_is (λ s. s.now) (found_of c.args.matches.now) (codes "to") c.get_str-5.result c.get_str-5.ensures;
}
