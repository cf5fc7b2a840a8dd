-- Names of editions.
use Rattle.std.specs.Prelude.{ℕ, List, codes}
use Rattle.tt_data.specs.declared.edition.Edition.{Edition}
use Rattle.tt_data.specs.declared.edition.Edition.TheVariants.{Edition2015, Edition2018}
use Rattle.tt_data.specs.declared.edition.Edition.TheVariants.{Edition2021, Edition2024}

-- the name of an edition: its year
abbrev pub edition_name : Edition → List ℕ
edition_name Edition2015 = codes "2015"
edition_name Edition2018 = codes "2018"
edition_name Edition2021 = codes "2021"
edition_name Edition2024 = codes "2024"
