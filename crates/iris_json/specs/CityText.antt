-- A city as the JSON of its line.
use Rattle.std.specs.Prelude.{List, [], ◌∷◌, ◌++◌, codes}
use Rattle.json.specs.Token.{Token}
use Rattle.serde_json.specs.Data.{Data, string, object, no_members, member}
use Rattle.iris_tree.specs.LocalText.{value_tokens}
use Rattle.iris_json.specs.declared.city.City.{City}
use Rattle.iris_json.specs.Render.{node_data}
use Rattle.iris_json.specs.CityKeys.{texts_data, numbers_data, places_data, show_text}

-- a city: its keys in the order of their bytes
abbrev pub city_data : City → Data
city_data city = object
    (member (codes "agents") (texts_data city.agents)
    (member (codes "caps") (numbers_data city.caps)
    (member (codes "kinds") (texts_data city.kinds)
    (member (codes "place") (places_data city.place)
    (member (codes "show") (string (show_text city.show))
    (member (codes "tree") (node_data city.tree)
    (member (codes "zone") (string city.zone)
    no_members)))))))

-- what is written for the keys of a city up to `place`
abbrev pub front_tokens : City → List Token
front_tokens city =
    Token.key (codes "agents") ∷ (value_tokens (texts_data city.agents)
    ++ (Token.key (codes "caps") ∷ (value_tokens (numbers_data city.caps)
    ++ (Token.key (codes "kinds") ∷ (value_tokens (texts_data city.kinds) ++ (Token.key (codes "place") ∷ value_tokens (places_data city.place)))))))

-- what is written for its keys from `show` on
abbrev pub back_tokens : City → List Token
back_tokens city = Token.key (codes "show") ∷ Token.string (show_text city.show) ∷ Token.key (codes "tree") ∷ (value_tokens (node_data city.tree) ++ (Token.key (codes "zone") ∷ Token.string city.zone ∷ []))
