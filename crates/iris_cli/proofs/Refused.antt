-- Lines that are refused are none.
use Rattle.std.proofs.Common.{◌≡◌, ℕ, List, refl, sym, subst, inl, inr, Err}
use Rattle.iris_json.specs.declared.line.Line.{Line}
use Rattle.iris_json.specs.declared.line.Line.TheVariants as lines
use Rattle.iris_json.specs.declared.line.LineError.{LineError}
use Rattle.iris_json.specs.declared.line.LineError.TheVariants as line_errors
use Rattle.iris_json.specs.declared.city.City.{City}
use Rattle.iris_json.specs.declared.city.CityError.{CityError}
use Rattle.iris_json.specs.declared.city.CityError.TheVariants as city_errors
use Rattle.iris_json.specs.Lines.{ReadsLine, GivesLine, RefusesLine}
use Rattle.iris_json.specs.CityLine.{ReadsCity, GivesCity, RefusesCity}
use Rattle.iris_cli.specs.declared.event.Event.TheVariants as events
use Rattle.iris_cli.specs.declared.event.Sent.TheVariants as sent
use Rattle.iris_cli.specs.Halt.{of_city, of_line}
use Rattle.iris_cli.specs.LineSays.{AsksFor, IsNoEvent, RefusesEvent}
use Rattle.iris_cli.specs.Played.{IsNoCityLine}
use Rattle.iris_cli.specs.Served.{IsServedCity, not_served}
use Rattle.iris_cli.specs.Stepped.{RefusesCityLine}

-- ---- the city line

-- what is read as no city is the line of none
no_city : (bytes : List ℕ) (error : CityError) → ((city : City) → GivesCity (Err error) city → ⊥) → ((city : City) → ReadsCity bytes city → GivesCity (Err error) city) → IsNoCityLine bytes
no_city bytes error none only city agent reads served = none city (only city reads)

-- a line from which no city was read is refused, by the reader's error
pub refused_city : (bytes : List ℕ) (error : CityError) → ((city : City) → ReadsCity bytes city → GivesCity (Err error) city) → RefusesCity bytes error → RefusesCityLine bytes (of_city error)
refused_city bytes city_errors.NotJson only refuses = (no_city bytes city_errors.NotJson (λ city g. g) only, inl (city_errors.NotJson, refuses, refl))
refused_city bytes (city_errors.BadCity node why) only refuses = (no_city bytes (city_errors.BadCity node why) (λ city g. g) only, inl (city_errors.BadCity node why, refuses, refl))
refused_city bytes (city_errors.CityLimit which count) only refuses = (no_city bytes (city_errors.CityLimit which count) (λ city g. g) only, inl (city_errors.CityLimit which count, refuses, refl))
refused_city bytes city_errors.Memory only refuses = tt

-- a line of a city that is not served is refused
pub unserved_city : (bytes : List ℕ) (city : City) → ((other : City) → ReadsCity bytes other → city ≡ other) → ReadsCity bytes city → ((agent : List ℕ) → IsServedCity city agent → ⊥) → RefusesCityLine bytes not_served
unserved_city bytes city only reads unserved = ((λ other agent read served. unserved agent (subst (λ (c : City). IsServedCity c agent) (sym (only other read)) served)), inr ((city, reads, unserved), refl))

-- ---- lines after it

no_text : (bytes text : List ℕ) → ((line : Line) → ReadsLine bytes line → ⊥) → AsksFor bytes text → ⊥
no_text bytes text none (inl posts) = none (lines.Query text posts.0) posts.1
no_text bytes text none (inr reads) = none (lines.Audit text) reads

no_event : (kinds : List (List ℕ)) (bytes : List ℕ) → ((line : Line) → ReadsLine bytes line → ⊥) → IsNoEvent kinds bytes
no_event kinds bytes none (events.Post (sent.Query query)) says = none (lines.Query says.0 says.1.0) says.1.1
no_event kinds bytes none (events.Post (sent.Update update)) says = none (lines.Update update.name update.no update.changes) says
no_event kinds bytes none (events.Audit query) says = none (lines.Audit says.0) says.1
no_event kinds bytes none (events.BadQuery why) says = no_text bytes says.0 none says.1
no_event kinds bytes none (events.Now at) says = none (lines.Now at) says
no_event kinds bytes none events.Settle says = none lines.Settle says

pub refused_line : (kinds : List (List ℕ)) (bytes : List ℕ) (error : LineError) → ((line : Line) → ReadsLine bytes line → GivesLine (Err error) line) → RefusesLine bytes error → RefusesEvent kinds bytes (of_line error)
refused_line kinds bytes line_errors.NotJson only refuses = (no_event kinds bytes only, inl (line_errors.NotJson, refuses, refl))
refused_line kinds bytes (line_errors.BadLine why) only refuses = (no_event kinds bytes only, inl (line_errors.BadLine why, refuses, refl))
refused_line kinds bytes line_errors.Memory only refuses = tt
