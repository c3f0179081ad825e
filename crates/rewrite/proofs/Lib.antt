pub mod ContentLaws
pub mod WholeLaws
pub mod PutLaws
pub mod SubsectionLaws
pub mod ChangeLaws
pub mod SubsectionPuts
pub mod NameLaws
pub mod ItemLaws
