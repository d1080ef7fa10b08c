-- what stands at the nodes, and names in order
pub mod NodeLaws
pub mod NameLaws
pub mod DomainLaws
pub mod SetNameLaws
-- the points of a request, and what is lent at each of them
pub mod PointLaws
pub mod GivenLaws
-- the replies
pub mod FitLaws
pub mod OkLaws
pub mod EarlyLaws
pub mod ReplyLaws
pub mod QuietLaws
pub mod OpenedLaws
-- results and names, as far as a PDU can hold them
pub mod SizeLaws
