use Rattle.std.proofs.Common.{◌∙◌, sym}
use Rattle.iris_route.proofs.Through.{head_through}
use Rattle.iris_route.proofs.TitleMaps.{first_name}
use Rattle.iris_route.proofs.titles.Titles.first.Goals as goal

pub returns-in-Some : goal.returns-in-Some
returns-in-Some c =
    let entry = c.in-Some.ensures {u = tt} in
    c.as_slice.ensures.value ∙ sym (first_name c.args.self.now _ _ (head_through _ _ _ _ _ (sym entry.entry) c.self.view_is))
