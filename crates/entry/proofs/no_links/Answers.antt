use mathlib.Core.Path.{ap₂}
use lib.ListN.{replicate}
use Rattle.records.specs.declared.principals.PrincipalLink.{PrincipalLink}
use Rattle.records.specs.declared.tags.TagLink.{TagLink}
use Rattle.entry.proofs.no_links.Goals as goal

pub returns : goal.returns
returns c = ap₂ (λ (x : PrincipalLink) (y : TagLink). record { links = replicate 256 x; grants = replicate 256 y }) c.link_of-links.ensures c.link_of-grants.ensures
