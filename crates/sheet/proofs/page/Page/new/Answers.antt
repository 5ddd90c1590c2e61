use Rattle.sheet.proofs.Recording.{recording}
use Rattle.sheet.proofs.page.Page.new.Goals as goal

pub returns-clause-laws : goal.returns-clause-laws
returns-clause-laws c = recording
