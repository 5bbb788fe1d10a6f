mod HalvesLaws
mod ProductLaws
mod QuotientLaws
mod QuotientNumbers
mod SignedHighLaws
