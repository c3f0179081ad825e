pub mod CountLaws
pub mod PutLaws
pub mod GroupLaws
pub mod MapLaws
pub mod HintLaws
pub mod NamingLaws
pub mod ItemLaws
