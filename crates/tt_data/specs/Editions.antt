-- The editions of the language, by their years.
use Rattle.std.specs.Prelude.{ℕ}
use Rattle.tt_data.specs.declared.edition.Edition.{Edition}
use Rattle.tt_data.specs.declared.edition.Edition.TheVariants.{Edition2015, Edition2018, Edition2021, Edition2024}

-- the year that an edition is named after
abbrev pub year_of : Edition → ℕ
year_of Edition2015 = 2015
year_of Edition2018 = 2018
year_of Edition2021 = 2021
year_of Edition2024 = 2024
